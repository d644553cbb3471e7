use Rattle.std.proofs.{Common.{arith}, lemmas.Grind.{common_steps}}
use Rattle.mdns_browse.proofs.lookup.set_cmp.Goals as goal

pub returns : goal.returns
returns c = grind (arith, common_steps)

pub returns-then-is_ne : goal.returns-then-is_ne
returns-then-is_ne c = grind (arith, common_steps)
