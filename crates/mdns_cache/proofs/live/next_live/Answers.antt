use Rattle.std.proofs.Common.{◌<◌, ◌≤◌, ◌+◌, ◌∷◌, [], unwrap_or, sym, ap, ◌∙◌, subst, arith}
use Rattle.mdns_message.specs.{RecordSet.{RecordSet}, Resource.{set_key_cmp}}
use Rattle.join_map.specs.Entries.{value_at}
use Rattle.mdns_join.proofs.FlushWalkLemmas.{HasLater}
use Rattle.mdns_cache.specs.{Live.{life_of}, LentRecords.{end_of, live_of}}
use Rattle.mdns_cache.proofs.LiveWalkLemmas.{rest_sorted, shows_next, shows_rest}
use Rattle.mdns_cache.proofs.live.next_live.Goals as goal

pub returns-then-nanos-end-clause-next : goal.returns-then-nanos-end-clause-next
returns-then-nanos-end-clause-next c =
    let left = c.loop-key.flushes in
    let new = c.moments.new.self in
    let now = c.args.now.nanos in
    let latest = c.in-Some.latest.now in
    let later = subst (λ (set : RecordSet). HasLater set left new) c.set.ensures c.moments.ensures.left in
    let held = c.end_of-end.ensures.value
    ∙ ap (λ ms. end_of ms latest.moment.nanos (latest.moment.nanos + life_of latest.ttl)) (c.all_of-held.ensures.value
    ∙ ap (λ o. unwrap_or o []) c.moments.ensures.value
    ∙ ap (λ (set : RecordSet). unwrap_or (value_at set_key_cmp set left) []) c.set.ensures) in
    let lives : now < c.end_of-end.result = omega (arith, c.if-nanos-end.true, c.nanos.ensures) in
    shows_next c.args.flushes.now left now c.args.entries.now c.loop-key.entries c.loop-key.invariant
    (c.in-Some.key.now, latest) c.next.new.self c.in-Some.ensures.steps new later (subst (λ n. now < n) held lives)
    ∙ (λ i. (sym c.borrowed_last-last.ensures i, sym held i) ∷ live_of new now c.next.new.self)

pub returns-then-nanos-end-clause-sorted : goal.returns-then-nanos-end-clause-sorted
returns-then-nanos-end-clause-sorted c = grind (arith, rest_sorted)

pub loop-key-preserved : goal.loop-key-preserved
loop-key-preserved c =
    let left = c.loop-key.flushes in
    let new = c.moments.new.self in
    let now = c.args.now.nanos in
    let latest = c.in-Some.latest.now in
    let later = subst (λ (set : RecordSet). HasLater set left new) c.set.ensures c.moments.ensures.left in
    let held = c.end_of-end.ensures.value
    ∙ ap (λ ms. end_of ms latest.moment.nanos (latest.moment.nanos + life_of latest.ttl)) (c.all_of-held.ensures.value
    ∙ ap (λ o. unwrap_or o []) c.moments.ensures.value
    ∙ ap (λ (set : RecordSet). unwrap_or (value_at set_key_cmp set left) []) c.set.ensures) in
    let over : c.end_of-end.result ≤ now = omega (arith, c.if-nanos-end.false, c.nanos.ensures) in
    shows_rest c.args.flushes.now left now c.args.entries.now c.loop-key.entries c.loop-key.invariant
    (c.in-Some.key.now, latest) c.next.new.self c.in-Some.ensures.steps new later (subst (λ n. n ≤ now) held over)
