use Rattle.mdns_page.proofs.LiveWordLemmas.{first_left-end, first_left-step, lines_left-end, lines_left-step}
use Rattle.mdns_page.proofs.live_words.push_lines.Goals as goal

pub loop-string-preserved : goal.loop-string-preserved
loop-string-preserved c = (
  lines_left-step _ _ _ _ _ _ _ _ c.in-Some.ensures.first c.in_ok-first.ensures.lines c.in_ok-first.ensures.next c.loop-string.invariant.0,
  first_left-step _ _ _ _ _ _ c.in-Some.ensures.first c.in_ok-first.ensures.next c.loop-string.invariant.1,
)

pub returns-clause-lines : goal.returns-clause-lines
returns-clause-lines c = lines_left-end _ _ _ _ c.in_default.ensures.none c.loop-string.invariant.0

pub returns-clause-none : goal.returns-clause-none
returns-clause-none c = first_left-end _ _ _ c.in_default.ensures.none c.loop-string.invariant.1
