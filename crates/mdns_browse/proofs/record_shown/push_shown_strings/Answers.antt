use Rattle.mdns_browse.proofs.ShownLemmas.{shown_left-step, shown_left-end}
use Rattle.mdns_browse.proofs.record_shown.push_shown_strings.Goals as goal

pub loop-string-preserved : goal.loop-string-preserved
loop-string-preserved c =
    shown_left-step c.args.gap.now _ _ _ _ _ _ c.in-Some.ensures.first c.in_ok-push_shown_string.ensures c.loop-string.invariant

pub returns : goal.returns
returns c = shown_left-end c.args.gap.now _ _ _ c.in_default.ensures.none c.loop-string.invariant
