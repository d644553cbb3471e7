-- Skipped packets are counted.
use Rattle.std.proofs.Common.{◌≡◌, ℕ, ◌+◌, ◌<◌, List, [], ◌∷◌, ◌++◌, Option, Some, None, arith, get_or, set, length, refl}
use Rattle.std.proofs.lemmas.{Bool.{cases_eq, eq-eqb, ne_eqb}, List.{get_or-set_other, get_or-set_same}}
use Rattle.std.proofs.lemmas.List.Sums.{count_by-le-length, sum_by_push}
use Rattle.std.specs.Prelude.{count_by}
use mathlib.Core.Bool.{cond}
use Rattle.mdns_capture.specs.{Frame.{FrameCarries}, Limits.{most_packets}, Savefile.{PacketAt}}
use Rattle.mdns_message.specs.{declared.hearing.Hearing.{Hearing}, Message.{MessageReads}}
use Rattle.mdns_browse.specs.Services.{AreEach}
use Rattle.mdns_survey.specs.declared.{outcome.PacketOutcome.{PacketOutcome}, outcome.SkipReason.{SkipReason}, skips.Skips.{Skips}}
use Rattle.mdns_survey.specs.{Outcomes.{ComesTo}, Listen.{outcome_of}, Skips.{CountsSkip, IsSkipOf, is_why, why_of}, Reasons.{row_of}}
use Rattle.mdns_survey.specs.Why.{SaysWhy}
use Rattle.mdns_survey.specs.declared.outcome.PacketOutcome.TheVariants as found
use Rattle.mdns_survey.proofs.OutcomeLemmas.{not_passed, not_passed_damaged}

-- WHY A PACKET IS SKIPPED

-- a packet whose message is heard isn't skipped
pub heard-no-skip : (packet : PacketAt) (payload : List ℕ) (hearings : List Hearing) → FrameCarries packet.frame payload
    → MessageReads packet.moment payload hearings → IsSkipOf packet None
heard-no-skip packet payload hearings carries reads =
    (payload, carries, λ passed. not_passed payload passed reads.header)

-- what was found of a packet says why it is skipped, if it is
pub skip-found : (packet : PacketAt) (what : PacketOutcome) → ComesTo packet.moment packet.frame (outcome_of what)
    → SaysWhy packet.frame what → IsSkipOf packet (why_of what)
skip-found packet (found.Skipped why) comes says = says
skip-found packet (found.Refused damage) comes says =
    (comes.0, comes.1, λ passed. not_passed_damaged packet.moment comes.0 passed comes.2)
skip-found packet (found.Heard source message) comes says =
    heard-no-skip packet comes.0 message.now comes.1 comes.2

-- ONE PACKET MORE

each-more : {X Y : Type 0} (Is : X → Y → Type 0) (xs : List X) (ys : List Y) (x : X) (y : Y)
    → AreEach Is xs ys → Is x y → AreEach Is (xs ++ x ∷ []) (ys ++ y ∷ [])
each-more Is [] [] x y each is = (is, tt)
each-more Is [] (other ∷ ys) x y each is = absurd each
each-more Is (first ∷ xs) [] x y each is = absurd each
each-more Is (first ∷ xs) (other ∷ ys) x y each is = (each.0, each-more Is xs ys x y each.1 is)

each-length : {X Y : Type 0} (Is : X → Y → Type 0) (xs : List X) (ys : List Y) → AreEach Is xs ys → length xs ≡ length ys
each-length Is [] [] each = refl
each-length Is [] (other ∷ ys) each = absurd each
each-length Is (first ∷ xs) [] each = absurd each
each-length Is (first ∷ xs) (other ∷ ys) each = omega (arith, each-length Is xs ys each.1)

count-push : (own : SkipReason) (whys : List (Option SkipReason)) (why : Option SkipReason)
    → count_by (is_why own) (whys ++ why ∷ []) ≡ count_by (is_why own) whys + cond (is_why own why) 1 0
count-push own whys why = sum_by_push (λ (w : Option SkipReason). cond (is_why own w) 1 0) whys why

-- the count of each reason after one packet more that is skipped for `why`
count-more : (counts : List ℕ) (whys : List (Option SkipReason)) (why own : SkipReason) (place next : ℕ)
    → place ≡ (row_of why).place
    → place < length counts → next ≡ get_or counts place 0 + 1 → get_or counts (row_of own).place 0 ≡ count_by (is_why own) whys
    → get_or (set counts place next) (row_of own).place 0 ≡ count_by (is_why own) (whys ++ Some why ∷ [])
count-more counts whys why own place next at within more is = grind (
  arith,
  cases_eq (row_of own).place place,
  get_or-set_same counts place next 0 within,
  eq-eqb,
  count-push own whys (Some why),
  get_or-set_other,
  ne_eqb,
)

-- a packet that isn't skipped leaves the counts as they are
pub counts-no-skip : (packet : PacketAt) (skips : Skips) → IsSkipOf packet None → CountsSkip packet skips skips
counts-no-skip packet skips is packets few counted = record {
  whys = counted.whys ++ None ∷ [];
  are = each-more IsSkipOf packets counted.whys packet None counted.are is;
  counts = λ own. omega (arith, counted.counts own, count-push own counted.whys None);
}

-- a packet that is skipped is counted for its reason
pub counts-skip : (packet : PacketAt) (why : SkipReason) (skips new_skips : Skips) (place next : ℕ) → place ≡ (row_of why).place
    → place < length skips.counts → (get_or skips.counts place 0 < most_packets → next ≡ get_or skips.counts place 0 + 1)
    → new_skips.counts ≡ set skips.counts place next → IsSkipOf packet (Some why) → CountsSkip packet skips new_skips
counts-skip packet why skips new_skips place next at within adds new is packets few counted = grind (
  arith,
  count_by-le-length (is_why why) counted.whys,
  each-length IsSkipOf packets counted.whys counted.are,
  each-more IsSkipOf packets counted.whys packet (Some why) counted.are is,
  count-more,
)
