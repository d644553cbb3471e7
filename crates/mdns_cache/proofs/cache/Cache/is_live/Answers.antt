use Rattle.mdns_cache.specs.Live.{IsEnd}
use Rattle.mdns_cache.proofs.MeaningLemmas.{is_live-by_end}
use Rattle.mdns_cache.proofs.cache.Cache.is_live.Goals as goal

pub returns : goal.returns
returns c = λ heard s. is_live-by_end (IsEnd heard c.args.key.now) c.ends_at.result c.is_some.result c.is_some.ensures
    (c.ends_at.ensures.end heard s)
