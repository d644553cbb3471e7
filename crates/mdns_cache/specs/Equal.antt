-- When contents are equal, as a test.
use Rattle.std.specs.Prelude.{ℕ, Bool, List, Option, nat_eq}
use Rattle.std.specs.{Option.{option_eq}, Ordering.{on, eq_by_cmp, eq_of_both}, Cmp.Lexicographic.{pointwise}}
use Rattle.mdns_capture.specs.declared.moment.Moment.{Moment}
use Rattle.mdns_message.specs.{declared.key.Key.{Key}, RecordSet.{RecordSet}, Resource.{key_cmp, set_key_cmp}}
use Rattle.mdns_join.specs.{declared.latest.Latest.{Latest}, Latest.{latest_cmp}}
use Rattle.mdns_cache.specs.Contents.{Contents}

abbrev pub eq_newest : Option Moment → Option Moment → Bool
eq_newest = option_eq (on (λ (m : Moment). m.nanos) nat_eq)

abbrev pub eq_lasts : List (Key × Latest) → List (Key × Latest) → Bool
eq_lasts = pointwise (eq_of_both (on (λ (e : Key × Latest). e.0) (eq_by_cmp key_cmp))
    (on (λ (e : Key × Latest). e.1) (eq_by_cmp latest_cmp)))

abbrev pub eq_flushes : List (RecordSet × List ℕ) → List (RecordSet × List ℕ) → Bool
eq_flushes = pointwise (eq_of_both (on (λ (e : RecordSet × List ℕ). e.0) (eq_by_cmp set_key_cmp))
    (on (λ (e : RecordSet × List ℕ). e.1) (pointwise nat_eq)))

-- whether contents are equal, part by part
abbrev pub eq_contents : Contents → Contents → Bool
eq_contents = eq_of_both (on (λ (c : Contents). c.newest) eq_newest)
    (eq_of_both (on (λ (c : Contents). c.lasts) eq_lasts) (on (λ (c : Contents). c.flushes) eq_flushes))
