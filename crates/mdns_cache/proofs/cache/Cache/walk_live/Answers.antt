use Rattle.std.proofs.Common.{List, ℕ, ap, ◌∙◌, subst, sym}
use Rattle.mdns_join.specs.declared.latest.Latest.{Latest}
use Rattle.mdns_cache.specs.{Contents.{Contents}, LentRecords.{live_of}, Live.{AreLiveRecords}}
use Rattle.mdns_cache.proofs.LiveRowLemmas.{AreLiveRecords-held}
use Rattle.mdns_cache.proofs.cache.Cache.walk_live.Goals as goal

pub returns : goal.returns
returns c heard s =
    let now = c.args.now.nanos in
    let flushes = c.new.ensures ∙ ap (λ (x : Contents). x.flushes) c.self.view_is in
    subst (λ (rows : List (Latest × ℕ)). AreLiveRecords heard now rows)
    (λ i. live_of (sym flushes i) now (sym c.walk.ensures.entries i))
    (AreLiveRecords-held c.args.self.now heard now c.requires s)
