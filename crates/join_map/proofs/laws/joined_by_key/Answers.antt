use Rattle.join_map.specs.laws.Entries.{value_at-join, same_maps}
use Rattle.join_map.proofs.laws.joined_by_key.Goals as goal

pub returns-clause-at : goal.returns-clause-at
returns-clause-at g c = λ k xs ys a b. value_at-join g.met.K.Ord.total g.met.K.Copied.exact g.V.Semilattice.join k xs ys a.sorted b.sorted

pub returns-clause-same : goal.returns-clause-same
returns-clause-same g c = same_maps g.met.K.Ord.total g.met.K.Copied.exact g.met.V.Semilattice.laws
