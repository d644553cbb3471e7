use Rattle.std.proofs.{Common.{sym, subst}, lemmas.Result.{IfOk-weaker}}
use Rattle.mdns_cache.specs.Live.{AreLiveRows}
use Rattle.mdns_cache.proofs.LiveRowLemmas.{AreLiveRows-from_records}
use Rattle.mdns_cache.proofs.cache.Cache.live.Goals as goal

pub returns : goal.returns
returns c =
    let now = c.args.now.nanos in
    IfOk-weaker c.lasts_of.result _ _ (λ rows same heard stands.
    subst (AreLiveRows heard now) (sym same) (AreLiveRows-from_records heard now c.walk_live.result (c.walk_live.ensures heard stands)))
    c.lasts_of.ensures
