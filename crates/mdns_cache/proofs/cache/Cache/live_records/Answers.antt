use Rattle.std.proofs.{Common.{arith}, lemmas.Result.{IfOk-weaker}}
use Rattle.mdns_cache.proofs.cache.Cache.live_records.Goals as goal

pub returns : goal.returns
returns c = grind (arith, IfOk-weaker)
