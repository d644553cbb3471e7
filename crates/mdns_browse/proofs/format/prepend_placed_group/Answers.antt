use Rattle.std.proofs.{Common.{arith}, lemmas.Grind.{common_steps}}
use Rattle.mdns_browse.proofs.format.prepend_placed_group.Goals as goal

pub returns-then-group-gt0-clause-written : goal.returns-then-group-gt0-clause-written
returns-then-group-gt0-clause-written c = grind (arith, common_steps)

pub returns-else-group-gt0-clause-written : goal.returns-else-group-gt0-clause-written
returns-else-group-gt0-clause-written c = grind (arith, common_steps)
