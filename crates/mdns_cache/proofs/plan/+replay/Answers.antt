use Rattle.std.proofs.{Common.{arith}, lemmas.Result.{IfOk-weaker}}
use Rattle.mdns_cache.proofs.plan.+replay.Goals as goal

pub returns-in_ok-other-in-Both : goal.returns-in_ok-other-in-Both
returns-in_ok-other-in-Both t c = grind (arith, IfOk-weaker)
