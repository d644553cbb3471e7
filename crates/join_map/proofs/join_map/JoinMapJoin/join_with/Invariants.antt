use Rattle.join_map.proofs.PutLemmas.{Leads}
use Rattle.join_map.proofs.join_map.JoinMapJoin.join_with.Given as goal

abbrev pub invariant-loop-key : goal.invariant-loop-key
invariant-loop-key g l = Leads g.met.K.Ord.total g.met.K.Copied.exact g.met.V.Semilattice.laws l.initial.self l.other l.self l.key-iterator
