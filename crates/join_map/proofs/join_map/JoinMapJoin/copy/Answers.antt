use Rattle.std.proofs.Common.{arith}
use Rattle.join_map.specs.laws.Entries.{joined-none}
use Rattle.join_map.proofs.join_map.JoinMapJoin.copy.Goals as goal

pub returns : goal.returns
returns g c = grind (arith, joined-none)
