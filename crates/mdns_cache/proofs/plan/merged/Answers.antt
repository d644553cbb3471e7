use Rattle.std.proofs.Common.{rules}
use Rattle.mdns_cache.proofs.plan.merged.Goals as goal

pub returns : goal.returns
returns c = search rules
