use Rattle.std.specs.Cmp.Lexicographic.{bytes_decides}
use Rattle.std.proofs.lemmas.Map.Lookups.{exact_unsigned}
use Rattle.mdns_message.specs.laws.Resource.{key_cmp-exact, set_key_cmp-exact}
use Rattle.mdns_join.specs.laws.Latest.{latest_cmp-exact, moment-same}
use Rattle.mdns_cache.specs.Contents.{contents}
use Rattle.mdns_cache.proofs.EqualityLemmas.{option_tells, pair_tells, list_tells, same_by_parts}
use Rattle.mdns_cache.proofs.equal.is_same.Goals as goal

pub tells_apart-requires : goal.tells_apart-requires
tells_apart-requires c = key_cmp-exact

pub tells_apart-requires-2 : goal.tells_apart-requires-2
tells_apart-requires-2 c = set_key_cmp-exact

pub tells_apart-requires-3 : goal.tells_apart-requires-3
tells_apart-requires-3 c = latest_cmp-exact

pub tells_apart-requires-4 : goal.tells_apart-requires-4
tells_apart-requires-4 c = λ x y e. moment-same x y (exact_unsigned x.nanos y.nanos e)

pub returns : goal.returns
returns c =
    let x = contents c.one.inside.lasts c.one.inside.flushes c.one.inside.newest in
    let y = contents c.other.inside.lasts c.other.inside.flushes c.other.inside.newest in
    same_by_parts _ _ _ (option_tells _ c.tells_apart-4.ensures)
    (list_tells _ (pair_tells _ _ c.tells_apart.ensures c.tells_apart-3.ensures))
    (list_tells _ (pair_tells _ _ c.tells_apart-2.ensures bytes_decides))
    x y c.args.one.now c.args.other.now c.one.view_is c.other.view_is
    c.are_all.result c.eq-newest.result c.eq-lasts.result c.eq-flushes.result c.are_all.ensures c.eq-newest.ensures
    c.eq-lasts.ensures c.eq-flushes.ensures
