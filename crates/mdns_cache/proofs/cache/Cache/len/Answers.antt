use Rattle.std.proofs.Common.{◌∙◌, ap, length}
use Rattle.mdns_cache.specs.Contents.{Contents}
use Rattle.mdns_cache.proofs.MeaningLemmas.{counts_records}
use Rattle.mdns_cache.proofs.cache.Cache.len.Goals as goal

pub returns-clause-stands : goal.returns-clause-stands
returns-clause-stands c = λ heard s.
    counts_records c.args.self.now heard c.len.result (c.len.ensures
    ∙ ap (λ (x : Contents). length x.lasts) c.self.view_is) s
