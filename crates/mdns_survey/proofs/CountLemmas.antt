-- Outcomes have a tally, if each message has few enough hearings.
use Rattle.std.proofs.lemmas.{Grind.{common_steps}, List.Sums.{sum_by-append, sum_by-cons}, List.Concat.{flat_map-append, flat_map-cons}}
use Rattle.std.proofs.Common.{◌≡◌, ℕ, ◌+◌, ◌*◌, ◌≤◌, Bool, List, [], ◌∷◌, ◌++◌, length, refl, arith, length-append}
use Rattle.std.specs.Prelude.{count_by, if◌then◌else◌}
use Rattle.mdns_survey.specs.{declared.summary.Tally.{Tally}, Outcomes.{Counts, Outcome, heard, hearings_in, hearings_of_outcome, is_heard}}
use Rattle.mdns_survey.specs.Outcomes.{is_refused, is_skipped, refused, skipped}

-- 1 for an outcome of the kind
abbrev pub one_if : (Outcome → Bool) → Outcome → ℕ
one_if is outcome = if is outcome then 1 else 0

count_by-cons : (is : Outcome → Bool) (outcome : Outcome) (outcomes : List Outcome)
    → count_by is (outcome ∷ outcomes) ≡ one_if is outcome + count_by is outcomes
count_by-cons is outcome outcomes = sum_by-cons (one_if is) outcome outcomes

-- no message has more than the greatest number of hearings
abbrev pub AreFew : List Outcome → Type 0
AreFew outcomes = length (hearings_in outcomes) ≤ count_by is_heard outcomes * 131070

-- a tally that counts the outcomes
pub record Tallied (outcomes : List Outcome) : Type 0 where
  pub tally : Tally
  pub counts : Counts outcomes tally

-- each outcome is of one kind
one_kind : (outcome : Outcome) → one_if is_skipped outcome + one_if is_refused outcome + one_if is_heard outcome ≡ 1
one_kind skipped = refl
one_kind refused = refl
one_kind (heard hearings) = refl

all_kinds : (outcomes : List Outcome)
    → length outcomes ≡ count_by is_skipped outcomes + count_by is_refused outcomes + count_by is_heard outcomes
all_kinds [] = refl
all_kinds (outcome ∷ outcomes) = grind (
  arith,
  all_kinds outcomes,
  one_kind outcome,
  count_by-cons is_skipped outcome outcomes,
  count_by-cons is_refused outcome outcomes,
  count_by-cons is_heard outcome outcomes,
)

pub tallied : (outcomes : List Outcome) → AreFew outcomes → Tallied outcomes
tallied outcomes few = record {
  tally = record {
    packets = length outcomes;
    skipped = count_by is_skipped outcomes;
    refused = count_by is_refused outcomes;
    messages = count_by is_heard outcomes;
    hearings = length (hearings_in outcomes);
    whole = all_kinds outcomes;
    few = few;
  };
  counts = record { packets = refl; skipped = refl; refused = refl; messages = refl; hearings = refl };
}

-- the hearings that a tally counts are few enough
few_counted : (outcomes : List Outcome) (tally : Tally) → Counts outcomes tally → AreFew outcomes
few_counted outcomes tally counts = omega (arith, tally.few, counts.messages, counts.hearings)

few-append : (front back : List Outcome) → AreFew front → AreFew back → AreFew (front ++ back)
few-append front back few_front few_back = grind (arith, flat_map-append, length-append, sum_by-append)

pub few-cons : (outcome : Outcome) (outcomes : List Outcome) → length (hearings_of_outcome outcome) ≤ one_if is_heard outcome * 131070
    → AreFew outcomes → AreFew (outcome ∷ outcomes)
few-cons outcome outcomes few_here few_after = grind (arith, common_steps, flat_map-cons, length-append, count_by-cons)

-- the outcomes that two tallies count have one tally together
pub tallied_together : (front back : List Outcome) (first second : Tally) → Counts front first → Counts back second
    → Tallied (front ++ back)
tallied_together front back first second counts_front counts_back =
    tallied (front ++ back) (few-append front back (few_counted front first counts_front) (few_counted back second counts_back))
