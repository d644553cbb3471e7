use Rattle.std.proofs.Common.{◌≡◌}
use Rattle.join_map.specs.Entries.{gathered, joined}
use Rattle.join_map.proofs.join_map.join_all.Given as goal

abbrev pub invariant-loop-key : goal.invariant-loop-key
invariant-loop-key g l =
    joined g.K.Ord.cmp g.V.Semilattice.join l.map l.key-iterator.rest.items ≡ gathered g.K.Ord.cmp g.V.Semilattice.join l.fn.entries.items
