use Rattle.std.proofs.Common.{◌∙◌, inr, sym}
use Rattle.command_line.proofs.scope.window_of.Goals as goal

pub returns-then-is_empty-clause-err : goal.returns-then-is_empty-clause-err
returns-then-is_empty-clause-err c = inr (inr (
  record { since = c.in_ok-since.since; until = c.in_ok-until.until },
  (c.in_ok-since.ensures.ok, c.in_ok-until.ensures.ok, sym c.is_empty.ensures ∙ c.if-is_empty.true),
))
