use Rattle.mdns_cache.proofs.EndLemmas.{until_end}
use Rattle.mdns_cache.proofs.laws.live_until_end.Goals as goal

pub returns : goal.returns
returns c = until_end
