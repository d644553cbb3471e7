use Rattle.std.proofs.{lemmas.Grind.{common_steps}, lemmas.List.{at_drop_all}, Common.{arith}}
use Rattle.mdns_lives.proofs.HeardLemmas.{seconds_from-over}
use Rattle.mdns_lives.proofs.seconds_heard.push_seconds.Goals as goal

pub returns : goal.returns
returns c = grind (arith, common_steps, seconds_from-over, at_drop_all)
