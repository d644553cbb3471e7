use Rattle.std.proofs.Common.{arith}
use Rattle.join_map.specs.laws.Entries.{IsJoinMap-none}
use Rattle.join_map.proofs.join_map.JoinMap.new.Goals as goal

pub invariant_of-result : goal.invariant_of-result
invariant_of-result g c = grind (arith, IsJoinMap-none)
