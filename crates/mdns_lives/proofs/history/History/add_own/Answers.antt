use Rattle.std.proofs.Common.{arith}
use Rattle.mdns_lives.proofs.history.History.add_own.Goals as goal

pub returns-clause-ok : goal.returns-clause-ok
returns-clause-ok c = grind arith
