use Rattle.std.proofs.Common.{◌≡◌, ◌++◌, ◌∷◌, [], List, ap, cond, subst, true}
use Rattle.mdns_message.specs.{Resource.{key_of}, declared.key.Key.{Key}}
use Rattle.mdns_cache.specs.Live.{key_of_last}
use Rattle.mdns_join.specs.declared.latest.Latest.{Latest}
use Rattle.mdns_lives.specs.declared.life.Life.{Life}
use Rattle.mdns_lives.proofs.SinceLemmas.{none_left}
use Rattle.mdns_page.specs.TimelineRows.{GivesSeconds, among}
use Rattle.mdns_page.proofs.SecondsByCaptureLemmas.{gives-start, keys_left, left-next}
use Rattle.mdns_page.proofs.seconds_by_capture.add_capture.Goals as goal

pub loop-record-init : goal.loop-record-init
loop-record-init c = λ heard stands.
    let lives = c.walk-walk.ensures.all heard stands in
    (lives.ascending, λ each. gives-start c.args.chronicle.now heard stands c.walk-walk.result lives each c.args.by_record.now)

pub loop-record-preserved : goal.loop-record-preserved
loop-record-preserved c = λ heard stands.
    let far = c.loop-record.invariant heard stands in
    let first : c.loop-record.walk ≡ c.in-Some.record ∷ c.next_record.new.self = rw c.in-Some.is at c.next_record.ensures in
    let next = left-next (key_of c.last.result.now.resource.now) c.loop-record.walk c.next_record.new.self c.in-Some.record first
    (ap key_of_last c.last.ensures) far.0 in (
      next.0,
      λ each was.
          c.in_ok-add_record.ensures heard stands each (keys_left c.next_record.new.self) next.2
          (subst (λ (left : List Key). GivesSeconds true (λ key. cond (among left key) each (each ++ heard ∷ [])) c.loop-record.by_record)
          next.1
          (far.1 each was)),
    )

pub returns : goal.returns
returns c = λ heard stands each was.
    subst (λ (rows : List (Latest × List Life)). GivesSeconds true (λ key. cond (among (keys_left rows) key) each (each ++ heard ∷ []))
    c.loop-record.by_record)
    (none_left (λ (row : Latest × List Life). row) c.next_record.new.self c.next_record.ensures c.in_default.not-Some)
    ((c.loop-record.invariant heard stands).1 each was)
