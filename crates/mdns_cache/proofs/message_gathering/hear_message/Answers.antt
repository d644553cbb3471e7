use Rattle.std.proofs.Common.{◌≡◌, ◌∙◌, ◌++◌, ◌∷◌, List, Contains, append_assoc, append-nil, ap, sym, map}
use Rattle.std.proofs.lemmas.{List.Elements.{Contains-append_right}, Map.Iter.{rest_so_far}}
use Rattle.mdns_message.specs.{declared.hearing.Hearing.{Hearing}, Borrowed.{hearing_lent}}
use Rattle.mdns_cache.specs.Repeats.{at_each, all_at_each}
use Rattle.mdns_cache.proofs.{StandsPartLemmas.{Contains-head}, RepeatLemmas.{moment_in}, MemoryLemmas.{stands-moved, all_heard}}
use Rattle.mdns_cache.proofs.message_gathering.hear_message.Goals as goal

pub hear_at_each-requires : goal.hear_at_each-requires
hear_at_each-requires c =
    let h = hearing_lent c.in-Some-hearing.hearing in
    let front = map hearing_lent c.loop-hearing.yielded in
    let whole : c.into_iter-hearing-iterator.result ≡ front ++ h ∷ c.next.new.self =
    rest_so_far hearing_lent _ _ _ c.loop-hearing.yielded_by
    ∙ ap (λ (hs : List Hearing). front ++ hs) c.in-Some-hearing.ensures.steps in
    let among : Contains c.read.new.self h = rw (← c.into_iter-hearing-iterator.ensures.into_iter_gives, whole)
    (Contains-append_right front (h ∷ c.next.new.self) h (Contains-head h c.next.new.self)) in
    rw (← (moment_in c.in-Some.newest c.bytes.result.now c.read.new.self c.in-Ok.ensures.found h among)) c.in-Some.ensures.newest

pub loop-hearing-preserved : goal.loop-hearing-preserved
loop-hearing-preserved c = λ ts told are s.
    let h = hearing_lent c.in-Some-hearing.hearing in
    let w = c.loop-hearing.invariant ts told are s in (
      w.0 ++ at_each ts h,
      append_assoc w.0 (at_each ts h) (all_at_each ts c.next.new.self)
          ∙ ap (λ (hs : List Hearing). w.0 ++ all_at_each ts hs) (sym c.in-Some-hearing.ensures.steps) ∙ w.1,
      c.in_ok-hear_at_each.ensures ts w.0 (are ∙ sym c.in_ok-moments.ensures) w.2,
    )

pub returns : goal.returns
returns c memory heard =
    let ts = c.all-moments.result.now in
    let hs = c.read.new.self in
    let are = c.all-moments.ensures.all ∙ c.in_ok-moments.ensures in
    stands-moved c.args.gathering.now c.loop-hearing.gathering c.args.message.now memory heard (all_at_each ts hs)
    (λ told s. let w = c.loop-hearing.invariant ts told are s in
    let all : w.0 ≡ told ++ all_at_each ts hs = rw (
      c.in-None.ensures.steps.0,
      c.into_iter-hearing-iterator.ensures.into_iter_gives,
      append-nil,
    ) at w.1 in
    rw (← all) w.2)
    (all_heard c.args.message.now c.in-Some.newest hs ts (rw c.bytes.ensures at c.in-Ok.ensures.found) are)
