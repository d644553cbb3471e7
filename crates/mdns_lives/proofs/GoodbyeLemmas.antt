-- The latest goodbye of a record, and the lives that tell it.
use Rattle.std.proofs.Common.{◌≡◌, ◌↔◌, ℕ, List, [], ◌∷◌, map, Option, None, Some, Contains, MatchOption}
use Rattle.std.proofs.{Common.{refl, sym, subst, arith}, lemmas.Bool.Decides.{nat_tests}}
use Rattle.mdns_capture.specs.declared.moment.Moment.{Moment}
use Rattle.mdns_message.specs.declared.{hearing.Hearing.{Hearing}, key.Key.{Key}}
use Rattle.mdns_join.specs.laws.Latest.{moment-same}
use Rattle.mdns_cache.specs.Live.{IsNewest, SameHearings}
use Rattle.mdns_cache.proofs.{ContentsLemmas.{newer}, StandsForLemmas.{newest-append}, RepeatLemmas.{nothing}}
use Rattle.mdns_cache.proofs.StandsPartLemmas.{Contains-nil, Contains-head, Contains-cases}
use Rattle.mdns_lives.specs.declared.life.Life.{Life}
use Rattle.mdns_lives.specs.{LifeWalk.{with_taken_back}, Lives.{AreApart, AreApartAfter, IsGoodbyeOf, IsInOne, IsTakenBack, goodbyes_of}}
use Rattle.mdns_lives.proofs.FilterLemmas.{filter-same}

-- ---- newest hearings

-- some hearings have one newest moment
one_newest : (hs : List Hearing) (a b : Moment) → IsNewest hs a → IsNewest hs b → a ≡ b
one_newest hs a b u v = grind (arith, moment-same, u.latest v.hearing v.among, v.latest u.hearing u.among)

pub some_newest : (hs : List Hearing) → (newest : Option Moment) × MatchOption newest (hs ≡ []) (IsNewest hs)
some_newest [] = (None, refl)
some_newest (h ∷ hs) =
    let rest = some_newest hs in
    let first : IsNewest (h ∷ []) h.moment = record {
      hearing = h;
      among = Contains-head h [];
      at_it = refl;
      latest = grind (arith, Contains-cases, Contains-nil);
    } in
    (newer (Some h.moment) rest.0, newest-append (h ∷ []) hs (Some h.moment) rest.0 first rest.1)

module _ (gs hs : List Hearing) (same : SameHearings gs hs) where
  pub newest-same : (o : Option Moment) → MatchOption o (gs ≡ []) (IsNewest gs) → MatchOption o (hs ≡ []) (IsNewest hs)
  newest-same None e = nothing hs (λ h m. Contains-nil h (subst (λ (xs : List Hearing). Contains xs h) e (same.back h m)))
  newest-same (Some n) q = record {
    hearing = q.hearing;
    among = same.into q.hearing q.among;
    at_it = q.at_it;
    latest = λ h m. q.latest h (same.back h m);
  }

-- the same hearings have the same latest goodbye
pub goodbye-same : (gs hs : List Hearing) (key : Key) (o : Option Moment) → SameHearings gs hs → IsGoodbyeOf gs key o → IsGoodbyeOf hs key o
goodbye-same gs hs key o same g = newest-same (goodbyes_of gs key) (goodbyes_of hs key) (filter-same _ gs hs same) o g

-- ---- lives that tell it

same_option : {X : Type 0} (o p : Option X) → ((x : X) → o ≡ Some x → p ≡ Some x) → ((x : X) → p ≡ Some x → o ≡ Some x) → o ≡ p
same_option None None into back = refl
same_option None (Some y) into back = back y refl
same_option (Some x) p into back = sym (into x refl)

-- lives alike tell the same goodbye
pub taken-alike : (heard : List Hearing) (key : Key) (x y : Life) → x.from.nanos ≡ y.from.nanos → x.last ≡ y.last
    → IsTakenBack heard key x → IsTakenBack heard key y → x.taken_back ≡ y.taken_back
taken-alike heard key x y from last u v =
    same_option x.taken_back y.taken_back (λ g is. grind (arith, u g, v g)) (λ g is. grind (arith, u g, v g))

-- a life tells a goodbye by any list of the same hearings
pub taken-same : (heard others : List Hearing) (key : Key) (life : Life) → SameHearings heard others → IsTakenBack heard key life
    → IsTakenBack others key life
taken-same heard others key life same u goodbye =
    let back : SameHearings others heard = record { into = same.back; back = same.into } in (
      λ is. (let w = (u goodbye).0 is in (goodbye-same heard others key (Some goodbye) same w.0, w.1)),
      λ w. (u goodbye).1 (goodbye-same others heard key (Some goodbye) back w.0, w.1),
    )

pub with_taken_back-taken : (heard : List Hearing) (key : Key) (o : Option Moment) → IsGoodbyeOf heard key o → (life : Life)
    → IsTakenBack heard key (with_taken_back o life)
with_taken_back-taken heard key None none life goodbye = grind (arith, Contains-nil)
with_taken_back-taken heard key (Some latest) newest life goodbye = (
  λ is. grind (arith, nat_tests),
  λ w. (let same = one_newest (goodbyes_of heard key) latest goodbye newest w.0 in grind (arith, nat_tests)),
)

-- ---- they are apart, and at the same moments

module _ (o : Option Moment) where
  with_taken_back-after : (low : ℕ) (lives : List Life) → AreApartAfter low lives → AreApartAfter low (map (with_taken_back o) lives)
  with_taken_back-after low [] a = tt
  with_taken_back-after low (life ∷ lives) a = (a.0, a.1, with_taken_back-after life.until lives a.2)

  pub with_taken_back-apart : (lives : List Life) → AreApart lives → AreApart (map (with_taken_back o) lives)
  with_taken_back-apart [] a = tt
  with_taken_back-apart (life ∷ lives) a = (a.0, with_taken_back-after life.until lives a.1)

  pub with_taken_back-in_one : (lives : List Life) (now : ℕ) → IsInOne (map (with_taken_back o) lives) now ↔ IsInOne lives now
  with_taken_back-in_one [] now = (λ w. w, λ w. w)
  with_taken_back-in_one (life ∷ lives) now = grind (arith, with_taken_back-in_one lives now)
