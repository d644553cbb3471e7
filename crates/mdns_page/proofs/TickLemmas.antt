-- The ticks of an axis.
use Rattle.std.proofs.Common.{◌≡◌, ℕ, ◌+◌, ◌-◌, ◌*◌, ◌/◌, ◌<◌, ◌≤◌, List, [], ◌∷◌, ◌++◌, length, map, ◌↔◌, arith, add-mul}
use Rattle.std.proofs.{Common.{lt_of_mul-lt-mul_right, mul-le-mul_right, div-mul-le_self}, lemmas.Bool.Decides.{nat_tests}}
use Rattle.std.proofs.lemmas.{Grind.{div_ceil_times}, List.FromFn.{get_or-map-range_with_len, length-map-range_with_len}}
use Rattle.std.proofs.lemmas.{List.FromFn.{map-range_with_len_more}, Nat.{div_below, le-div}}
use Rattle.std.specs.{Int.{div_ceil}, List.{range_with_len, Contains}}
use Rattle.mdns_capture.specs.Limits.{second}
use Rattle.mdns_page.specs.{declared.axis.Axis.{Axis}, Ticks.{first_step, multiples, step_of, steps, ticks}}

-- ---- the first step that is long enough

step-covers : (span : ℕ) (steps : List ℕ) → span < 7 * first_step span steps
step-covers span [] = omega arith
step-covers span (step ∷ steps) = grind (arith, nat_tests, step-covers span steps)

-- ---- multiples of a step

-- a multiple that is not beyond a moment fits
pub multiple-within : (k step high : ℕ) → k < high / step + 1 → k * step ≤ high
multiple-within k step high below = grind (arith, mul-le-mul_right, div-mul-le_self)

-- the multiples before the one with an index
pub record AreMultiples (step low high index : ℕ) (found : List ℕ) : Type 0 where
  pub items : found ≡ map (λ k. k * step) (range_with_len (div_ceil low step) (index - div_ceil low step))
  pub within : index - div_ceil low step ≤ high / step + 1 - div_ceil low step

pub multiples-none : (step low high first : ℕ) (found : List ℕ) → first ≡ div_ceil low step → found ≡ [] → AreMultiples step low high first found
multiples-none step low high first found at none = grind arith

pub multiples-more : (step low high index first : ℕ) (found new : List ℕ) → first ≡ div_ceil low step → first ≤ index
    → index < high / step + 1 → AreMultiples step low high index found → new ≡ found ++ (index * step) ∷ []
    → AreMultiples step low high (index + 1) new
multiples-more step low high index first found new at low-is below are is =
    grind (arith, map-range_with_len_more (λ k. k * step) (div_ceil low step) (index - div_ceil low step) index (omega (arith, at)))

pub multiples-all : (step low high index : ℕ) (found : List ℕ) → high / step + 1 ≤ index → AreMultiples step low high index found
    → found ≡ multiples step low high
unfolding multiples
multiples-all step low high index found past are = grind arith

multiples-few : (step low high : ℕ) → high - low < 7 * step → length (multiples step low high) ≤ 7
unfolding multiples
multiples-few step low high short =
    grind (arith, div_ceil_times low step (omega arith), add-mul (div_ceil low step) 7 step, div_below, length-map-range_with_len)

multiple-in : (step low high n : ℕ) → 0 < step → Contains (multiples step low high) n
    → (k : ℕ) × (n ≡ k * step) × (low ≤ n) × (n ≤ high)
unfolding multiples
multiple-in step low high n some (i, within, at) =
    grind (arith, length-map-range_with_len, get_or-map-range_with_len, div_ceil_times, mul-le-mul_right, multiple-within)

multiple-of : (step low high n k : ℕ) → 0 < step → n ≡ k * step → low ≤ n → n ≤ high → Contains (multiples step low high) n
unfolding multiples
multiple-of step low high n k some is from until =
    let first = div_ceil low step in
    let begin = div_ceil_times low step some in
    let next : (k + 1) * step ≡ k * step + 1 * step = add-mul k 1 step in
    let early : first < k + 1 = lt_of_mul-lt-mul_right step (omega (arith, begin, next)) in
    let late : k ≤ high / step = le-div k high step some (omega arith) in
    let count = length-map-range_with_len (λ k. k * step) first (high / step + 1 - first) in
    grind (arith, get_or-map-range_with_len (λ k. k * step) first (high / step + 1 - first) (k - first) k n (omega arith) (omega arith))

-- ---- the ticks of an axis

pub ticks-few : (axis : Axis) → length (ticks axis) ≤ 7
unfolding ticks step_of
ticks-few axis = grind (arith, step-covers, multiples-few)

pub ticks-each : (axis : Axis) (n : ℕ) → Contains (ticks axis) n
    ↔ ((k : ℕ) × (n ≡ k * (step_of axis * second)) × (axis.start.nanos ≤ n) × (n ≤ axis.end.nanos))
unfolding ticks step_of
ticks-each axis n =
    let span = (axis.end.nanos - axis.start.nanos) / second in
    let covers : span < 7 * first_step span steps = step-covers span steps in
    let some : 0 < first_step span steps * second = omega (arith, covers) in (
      multiple-in (first_step span steps * second) axis.start.nanos axis.end.nanos n some,
      λ (k, is, from, until). multiple-of (first_step span steps * second) axis.start.nanos axis.end.nanos n k some is from until,
    )

-- WHAT FUNCTIONS ARE PROVED BY

pub ruleset for_multiples = (multiples-all, multiples-more, multiples-none)
