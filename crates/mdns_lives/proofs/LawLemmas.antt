-- Laws of lives over all hearings: the same hearings have one list, and which of them a report shows.
use Rattle.std.proofs.Common.{◌≡◌, ◌≢◌, ℕ, ◌+◌, ◌<◌, ◌≤◌, List, [], ◌∷◌, Contains, sym, ap, subst, inl, inr, arith, ◌↔◌, ◌∙◌}
use Rattle.std.specs.Prelude.{nat_le, nat_lt}
use Rattle.std.proofs.lemmas.Bool.{cases_lt, ltb-true, lt-ltb}
use Rattle.mdns_capture.specs.{Limits.{second}}
use Rattle.mdns_message.specs.{declared.hearing.Hearing.{Hearing}, declared.key.Key.{Key}, Resource.{IsOf}}
use Rattle.mdns_join.specs.declared.latest.Latest.{Latest}
use Rattle.mdns_cache.specs.Live.{IsHeard, IsLast, SameHearings, life_of, IsLive, IsEnd}
use Rattle.mdns_cache.proofs.StandsPartLemmas.{IsLast-same, IsLast-among, Contains-cases, Contains-nil}
use Rattle.mdns_lives.specs.declared.life.{Life.{Life}, EndReason.{EndReason}, EndReason.TheVariants.{Expired, Goodbye, Flushed}}
use Rattle.mdns_lives.specs.Lives.{heard_until, heard_before, IsLiveThen, IsDuring, IsInOne, AreApart, AreApartAfter, IsEndFor, EndsThen}
use Rattle.mdns_lives.specs.Lives.{AreLives, IsTakenBack}
use Rattle.mdns_lives.proofs.{FilterLemmas.{filter-same, from-filter, to-filter}, BridgeLemmas.{until-in, until-from}}
use Rattle.mdns_lives.proofs.{GoodbyeLemmas.{taken-alike, taken-same}, OneListLemmas.{IsEndAlike, same_lives, end-out, apart-rest}, OrderLemmas.{heard-same}}

-- ---- the same hearings

same_until : (now : ℕ) (heard others : List Hearing) → SameHearings heard others
    → SameHearings (heard_until now heard) (heard_until now others)
same_until now heard others same = filter-same (λ (x : Hearing). nat_le x.moment.nanos now) heard others same

live-among : (now : ℕ) (heard others : List Hearing) (key : Key) (l : Latest) → SameHearings heard others
    → IsLive heard now key l → IsLive others now key l
live-among now heard others key l same v = record {
  last = IsLast-among heard others same key l v.last;
  running = v.running;
  unstruck = λ s. v.unstruck (record {
    flush = s.flush;
    strikes = record { among = same.back s.flush s.strikes.among; of_set = s.strikes.of_set; later = s.strikes.later };
    old = s.old;
  });
}

live_then-among : (now : ℕ) (heard others : List Hearing) (key : Key) → SameHearings heard others
    → IsLiveThen heard key now → IsLiveThen others key now
live_then-among now heard others key same w =
    (w.0, live-among now (heard_until now heard) (heard_until now others) key w.0 (same_until now heard others same) w.1)

-- how a life ends, and the goodbye that it tells
abbrev EndsTold : List Hearing → Key → Life → Type 0
EndsTold heard key life = EndsThen heard key life × IsTakenBack heard key life

one_ending : (heard others : List Hearing) (key : Key) → SameHearings heard others → (x y : Life) → x.from.nanos ≡ y.from.nanos
    → x.until ≡ y.until → EndsTold heard key x → EndsTold others key y → IsEndAlike x y
one_ending heard others key same x y f e (p, u) (q, v) =
    let first = subst (λ n. IsLast (heard_until n heard) key p.last) e p.is_last in
    let last = IsLast-same (heard_until y.until heard) (heard_until y.until others) (same_until y.until heard others same) key
    p.last q.last first q.is_last in
    let out : p.last.moment.nanos + life_of p.last.ttl ≡ q.last.moment.nanos + life_of q.last.ttl =
    ap (λ (l : Latest). l.moment.nanos + life_of l.ttl) last in
    let ttl : p.last.ttl ≡ q.last.ttl = ap (λ (l : Latest). l.ttl) last in
    let moment = sym p.moment ∙ ap (λ (l : Latest). l.moment) last ∙ q.moment in
    grind (arith, heard-same, taken-alike others key x y f, taken-same heard others key x same u)

pub one_list_among : (heard others : List Hearing) (key : Key) (xs ys : List Life) → SameHearings heard others
    → AreLives heard key xs → AreLives others key ys → xs ≡ ys
one_list_among heard others key xs ys same p q =
    let back : SameHearings others heard = record { into = same.back; back = same.into } in
    same_lives (EndsTold heard key) (EndsTold others key) (one_ending heard others key same) xs ys p.apart q.apart
    (λ now w. (q.exactly now).0 (live_then-among now heard others key same ((p.exactly now).1 w)))
    (λ now w. (p.exactly now).0 (live_then-among now others heard key back ((q.exactly now).1 w)))
    (λ x m. (p.ends x m, p.goodbyes x m)) (λ y m. (q.ends y m, q.goodbyes y m))

ends-among : (heard others : List Hearing) (key : Key) → SameHearings heard others → (l : Latest) (end : ℕ) (r : EndReason)
    → IsEndFor heard key l end r → IsEndFor others key l end r
ends-among heard others key same l end Expired e = e
ends-among heard others key same l end Goodbye e = e
ends-among heard others key same l end Flushed e =
    let s = e.1.1 in
    (e.0, (e.1.0, record { among = same.into e.1.0 s.among; of_set = s.of_set; later = s.later }, e.1.2))

-- lives are those by any list of the same hearings
pub lives-among : (heard others : List Hearing) (key : Key) (lives : List Life) → SameHearings heard others
    → AreLives heard key lives → AreLives others key lives
lives-among heard others key lives same are =
    let back : SameHearings others heard = record { into = same.back; back = same.into } in
    record {
      apart = are.apart;
      exactly = λ now. (
        λ w. (are.exactly now).0 (live_then-among now others heard key back w),
        λ w. live_then-among now heard others key same ((are.exactly now).1 w),
      );
      ends = λ life m. (let e = are.ends life m in
          record {
            last = e.last;
            is_last = IsLast-among (heard_until life.until heard) (heard_until life.until others)
                (same_until life.until heard others same) key e.last e.is_last;
            moment = e.moment;
            ttl = e.ttl;
            ends = ends-among heard others key same e.last life.until life.reason e.ends;
          });
      goodbyes = λ life m. taken-same heard others key life same (are.goodbyes life m);
    }

-- ---- the hearings before a moment

before-in : (now : ℕ) (heard : List Hearing) (h : Hearing) → Contains (heard_before now heard) h
    → Contains heard h × (h.moment.nanos < now)
before-in now heard h m = grind (arith, from-filter (λ (x : Hearing). nat_lt x.moment.nanos now) heard h m, ltb-true)

before-from : (now : ℕ) (heard : List Hearing) (h : Hearing) → Contains heard h → h.moment.nanos < now
    → Contains (heard_before now heard) h
before-from now heard h m l = to-filter (λ (x : Hearing). nat_lt x.moment.nanos now) heard h m (lt-ltb h.moment.nanos now l)

-- no hearing of the record is at the moment
abbrev pub NoneAt : List Hearing → Key → ℕ → Type 0
NoneAt heard key now = (h : Hearing) → Contains heard h → IsOf key h → h.moment.nanos ≢ now

below : (m now : ℕ) → m ≤ now → m ≢ now → m < now
below m now l n = elim (cases_lt m now) [ inl k ↦ k | inr k ↦ absurd (n (omega (arith, l, k))) ]

pub before-then : (heard : List Hearing) (key : Key) (now : ℕ) → NoneAt heard key now
    → (l : Latest) × IsLive (heard_before now heard) now key l → IsLiveThen heard key now
before-then heard key now none w =
    let p = w.1.last in
    let here = before-in now heard p.hearing p.among in (
      w.0,
      record {
        last = record {
          hearing = p.hearing;
          among = until-from now heard p.hearing here.0 (omega (arith, here.1));
          of_record = p.of_record;
          gives = p.gives;
          greatest = λ h m o. let at = until-in now heard h m in
              p.greatest h (before-from now heard h at.0 (below h.moment.nanos now at.1 (none h at.0 o))) o;
        };
        running = w.1.running;
        unstruck = λ s. let at = until-in now heard s.flush s.strikes.among in
            let old : s.flush.moment.nanos + second ≤ now = s.old in
            w.1.unstruck (record {
              flush = s.flush;
              strikes = record {
                among = before-from now heard s.flush at.0 (omega (arith, old));
                of_set = s.strikes.of_set;
                later = s.strikes.later;
              };
              old = s.old;
            });
      },
    )

pub then-before : (heard : List Hearing) (key : Key) (now : ℕ) → NoneAt heard key now
    → IsLiveThen heard key now → (l : Latest) × IsLive (heard_before now heard) now key l
then-before heard key now none w =
    let p = w.1.last in
    let here = until-in now heard p.hearing p.among in (
      w.0,
      record {
        last = record {
          hearing = p.hearing;
          among = before-from now heard p.hearing here.0 (below p.hearing.moment.nanos now here.1 (none p.hearing here.0 p.of_record));
          of_record = p.of_record;
          gives = p.gives;
          greatest = λ h m o. let at = before-in now heard h m in
              p.greatest h (until-from now heard h at.0 (omega (arith, at.1))) o;
        };
        running = w.1.running;
        unstruck = λ s. let at = before-in now heard s.flush s.strikes.among in
            w.1.unstruck (record {
              flush = s.flush;
              strikes = record {
                among = until-from now heard s.flush at.0 (omega (arith, at.1));
                of_set = s.strikes.of_set;
                later = s.strikes.later;
              };
              old = s.old;
            });
      },
    )

-- ---- from the newest hearing on

-- no hearing is later than the moment
abbrev pub NoneAfter : List Hearing → ℕ → Type 0
NoneAfter heard now = (h : Hearing) → Contains heard h → h.moment.nanos ≤ now

pub until-all : (now : ℕ) (heard : List Hearing) → NoneAfter heard now → SameHearings (heard_until now heard) heard
until-all now heard none = record {
  into = λ h m. (until-in now heard h m).0;
  back = λ h m. until-from now heard h m (none h m);
}

-- nor later than a later one
pub none-after : (heard : List Hearing) (now later : ℕ) → NoneAfter heard now → now ≤ later → NoneAfter heard later
none-after heard now later none l h m = let e = none h m in omega (arith, e, l)

pub live-whole : (heard : List Hearing) (key : Key) (now : ℕ) → NoneAfter heard now
    → IsLiveThen heard key now ↔ ((l : Latest) × IsLive heard now key l)
live-whole heard key now none =
    let same = until-all now heard none in
    let back : SameHearings heard (heard_until now heard) = record { into = same.back; back = same.into } in (
      λ w. (w.0, live-among now (heard_until now heard) heard key w.0 same w.1),
      λ w. (w.0, live-among now heard (heard_until now heard) key w.0 back w.1),
    )

-- the life that a moment is in
pub during : (lives : List Life) (life : Life) (now : ℕ) → Contains lives life → IsDuring life now → IsInOne lives now
during [] life now m d = absurd (Contains-nil life m)
during (x ∷ xs) life now m d = grind (arith, Contains-cases, during xs life now)

-- the end of a life is in none
out_of_all : (lives : List Life) (life : Life) → AreApart lives → Contains lives life → IsInOne lives life.until → ⊥
out_of_all [] life a m w = w
out_of_all (x ∷ xs) life a m w =
    elim (Contains-cases x xs life m) [
      | inl same ↦ end-out x xs a (subst (λ (y : Life). IsInOne (x ∷ xs) y.until) (sym same) w)
      | inr rest ↦ elim w [
        | inl d ↦ (let late : x.until < life.until = ends_after x.until xs life a.1 rest in absurd (omega (arith, late, d.1)))
        | inr r ↦ out_of_all xs life (apart-rest x.until xs a.1) rest r
      ]
    ]
  where
    ends_after : (low : ℕ) (ys : List Life) (y : Life) → AreApartAfter low ys → Contains ys y → low < y.until
    ends_after low [] y a m = absurd (Contains-nil y m)
    ends_after low (z ∷ zs) y a m =
        elim (Contains-cases z zs y m) [
          | inl same ↦ subst (λ (v : Life). low < v.until) same (omega (arith, a.0, a.1))
          | inr rest ↦ (let later = ends_after z.until zs y a.2 rest in omega (arith, a.0, a.1, later))
        ]

-- each record that is live has an end, which ends it (`one_end` of mdns_cache)
abbrev pub SomeEnd : Type 0
SomeEnd = (heard : List Hearing) (key : Key) → IsHeard heard key → (end : ℕ) × IsEnd heard key end

abbrev pub UntilEnd : Type 0
UntilEnd = (heard : List Hearing) (key : Key) (now end : ℕ) → IsEnd heard key end → (((l : Latest) × IsLive heard now key l) ↔ (now < end))

-- the life that goes on after all hearings ends when a report as of then says
pub ends_as_reported : SomeEnd → UntilEnd → (heard : List Hearing) (key : Key) (lives : List Life) (life : Life) (now : ℕ)
    → NoneAfter heard now → AreLives heard key lives → Contains lives life → IsDuring life now → IsEnd heard key life.until
ends_as_reported some_end until_end heard key lives life now none are among d =
    let live = (live-whole heard key now none).0 ((are.exactly now).1 (during lives life now among d)) in
    let last = live.1.last in
    let end = some_end heard key (record { hearing = last.hearing; among = last.among; of_record = last.of_record }) in
    let after : (n : ℕ) → now ≤ n → IsInOne lives n ↔ (n < end.0) =
    λ n l. (let none_then : NoneAfter heard n = λ h m. (let e = none h m in omega (arith, e, l)) in
    let same = live-whole heard key n none_then in
    let until = until_end heard key n end.0 end.1 in
    (λ w. until.0 (same.0 ((are.exactly n).1 w)), λ k. (are.exactly n).0 (same.1 (until.1 k)))) in
    let no_later : end.0 ≤ life.until = elim (cases_lt life.until end.0) [
      | inl l ↦ absurd (out_of_all lives life are.apart among ((after life.until (omega (arith, d.1))).1 l))
      | inr l ↦ l
    ] in
    let no_earlier : life.until ≤ end.0 = elim (cases_lt end.0 life.until) [
      | inl l ↦ (let here : now < end.0 = (after now (omega arith)).0 (during lives life now among d) in
          let out : end.0 < end.0 = (after end.0 (omega (arith, here))).0 (during lives life end.0 among (omega (arith, d.0, here), l)) in
          absurd (omega (arith, out)))
      | inr l ↦ l
    ] in
    let same : end.0 ≡ life.until = omega (arith, no_later, no_earlier) in
    subst (λ n. IsEnd heard key n) same end.1
