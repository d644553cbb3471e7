use Rattle.join_map.specs.laws.Join.{IsAtMost-left, IsAtMost-right, IsAtMost-least}
use Rattle.join_map.proofs.laws.join_is_least.Goals as goal

pub returns-clause-left : goal.returns-clause-left
returns-clause-left g c = IsAtMost-left g.met.V.Semilattice.laws

pub returns-clause-right : goal.returns-clause-right
returns-clause-right g c = IsAtMost-right g.met.V.Semilattice.laws

pub returns-clause-least : goal.returns-clause-least
returns-clause-least g c = IsAtMost-least g.met.V.Semilattice.laws
