use Rattle.std.proofs.Common.{arith}
use Rattle.mdns_lives.proofs.seconds_heard.seconds_of.Goals as goal

pub returns : goal.returns
returns c = grind arith
