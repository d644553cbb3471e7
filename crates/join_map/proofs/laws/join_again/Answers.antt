use Rattle.join_map.specs.laws.Join.{join-again}
use Rattle.join_map.proofs.laws.join_again.Goals as goal

pub returns : goal.returns
returns g c = join-again g.met.V.Semilattice.laws
