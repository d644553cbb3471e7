use Rattle.std.proofs.Common.{arith, append_assoc}
use Rattle.mdns_lives.proofs.HeardLemmas.{seconds_from-on, seconds_from-anew}
use Rattle.mdns_lives.proofs.seconds_heard.take_next.Goals as goal

pub returns-then-second : goal.returns-then-second
returns-then-second c = grind (arith, seconds_from-on)

pub returns : goal.returns
returns c = grind (arith, append_assoc, seconds_from-anew)
