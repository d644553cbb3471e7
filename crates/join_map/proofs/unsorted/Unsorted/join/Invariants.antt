use Rattle.std.proofs.Common.{◌≡◌}
use Rattle.join_map.proofs.unsorted.Unsorted.join.Given as goal

abbrev pub invariant-loop-tried : goal.invariant-loop-tried
invariant-loop-tried g l = l.self ≡ l.initial.self
