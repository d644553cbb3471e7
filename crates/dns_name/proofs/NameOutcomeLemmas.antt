-- Each offset reads as a name or meets a first fault, whatever the message.
use Rattle.std.proofs.Common.{◌≡◌, ℕ, zero, suc, ◌+◌, ◌-◌, ◌%◌, ◌<◌, ◌≤◌, ◌⊎◌, inl, inr, List, []}
use Rattle.std.proofs.{Common.{◌∷◌, ◌++◌, length, drop, refl, arith, length-append}, lemmas.Bool.{cases_lt}}
use Rattle.std.specs.Prelude.{slice_index, slice_range}
use Rattle.byteorder.specs.Endian.{big_number}
use Rattle.dns_name.specs.{NameAt.{NameStands, NameReads, LabelAt, PointerAt}, NameAt.NameStands.{root, label, pointer}}
use Rattle.dns_name.specs.{FirstFault.{NameFailsUnder, NameFails}, FirstFault.NameFailsUnder.{no_octet, label_cut, label_long, label_form}}
use Rattle.dns_name.specs.FirstFault.NameFailsUnder.{pointer_cut, pointer_target, after_label, after_pointer}
use Rattle.dns_name.specs.declared.fault.{NameReadFault.{NameReadFault}, NameReadFault.TheVariants.{Cut, Label, Pointer, LongName}}
use Rattle.dns_name.proofs.NameLemmas.{label_length}
use Rattle.std.proofs.Common.{rules}

-- at p is a name that fits after u octets, or reading it meets a fault
NameOutcome : List ℕ → ℕ → ℕ → ℕ → Type 0
NameOutcome m p s u =
    ((n : List ℕ) × (q : ℕ) × NameStands m p s n q × (u + length n ≤ 256)) ⊎ ((f : NameReadFault) × NameFailsUnder m p s u f)

-- what a step needs of the steps after it: an outcome where the run's bound and the octets left are less
OutcomesBelow : List ℕ → ℕ → Type 0
OutcomesBelow m fuel = (p s u : ℕ) → u < 256 → s + (256 - u) < fuel → NameOutcome m p s u

-- a label
outcome_label : (m : List ℕ) (fuel p s u k : ℕ) → u < 256 → s + (256 - u) ≤ fuel → OutcomesBelow m fuel → p < length m
    → slice_index m p ≡ k → 1 ≤ k → k ≤ 63 → NameOutcome m p s u
unfolding NameOutcome OutcomesBelow
outcome_label m fuel p s u k fits enough next here octet some few =
    elim (cases_lt (length m) (p + 1 + k)) [
      | inl cut ↦ inr (Cut p, label_cut k here octet some few cut refl)
      | inr whole ↦
          let a : LabelAt m p k = record { whole = whole; octet = octet; some = some; few = few } in
          elim (cases_lt 256 (u + k + 2)) [
            | inl long ↦ inr (LongName p, label_long k a long refl)
            | inr short ↦
                elim (next (p + 1 + k) s (u + k + 1) (omega arith) (omega arith)) [
                  | inl read ↦
                      let part : length (slice_range m p (p + 1 + k)) ≡ k + 1 = label_length m p k a in
                      let sum : u + k + 1 + length read.0 ≤ 256 = read.3 in
                      inl
                      (slice_range m p (p + 1 + k) ++ read.0, read.1, label k read.0 a read.2 refl, rw length-append (omega arith))
                  | inr fault ↦ inr (fault.0, after_label k a short fault.1)
                ]
          ]
    ]

-- a pointer
outcome_pointer : (m : List ℕ) (fuel p s u : ℕ) → u < 256 → s + (256 - u) ≤ fuel → OutcomesBelow m fuel → p < length m
    → 192 ≤ slice_index m p → NameOutcome m p s u
unfolding NameOutcome OutcomesBelow
outcome_pointer m fuel p s u fits enough next here octet =
    elim (cases_lt (length m) (p + 2)) [
      | inl cut ↦ inr (Cut p, pointer_cut here octet cut refl)
      | inr whole ↦
          let t : ℕ = big_number 2 (drop p m) % 16384 in
          let a : PointerAt m p t = record { whole = whole; octet = octet; target = refl } in
          elim (cases_lt t s) [
            | inr late ↦ inr (Pointer p, pointer_target t a late refl)
            | inl early ↦
                elim (next t t u fits (omega arith)) [
                  | inl read ↦ inl (read.0, p + 2, pointer t read.1 a early read.2 refl, read.3)
                  | inr fault ↦ inr (fault.0, after_pointer t a early fault.1)
                ]
          ]
    ]

-- any octet at p
outcome_step : (m : List ℕ) (fuel p s u : ℕ) → u < 256 → s + (256 - u) ≤ fuel → OutcomesBelow m fuel → NameOutcome m p s u
unfolding NameOutcome
outcome_step m fuel p s u fits enough next =
    elim (cases_lt p (length m)) [
      | inr none ↦ inr (Cut p, no_octet none refl)
      | inl here ↦
          elim (cases_lt 0 (slice_index m p)) [
            | inr zero_octet ↦ inl (0 ∷ [], p + 1, root (record { whole = here; octet = omega arith }) refl refl, omega arith)
            | inl some ↦
                elim (cases_lt (slice_index m p) 64) [
                  | inl few ↦ outcome_label m fuel p s u (slice_index m p) fits enough next here refl some (omega arith)
                  | inr more ↦
                      elim (cases_lt (slice_index m p) 192) [
                        | inl neither ↦ inr (Label p, label_form here more neither refl)
                        | inr octet ↦ outcome_pointer m fuel p s u fits enough next here octet
                      ]
                ]
          ]
    ]

outcome_by : (m : List ℕ) (fuel : ℕ) → OutcomesBelow m fuel
unfolding OutcomesBelow
outcome_by m zero = λ p s u fits enough. absurd (omega arith)
outcome_by m (suc fuel) = λ p s u fits enough. outcome_step m fuel p s u fits (omega arith) (outcome_by m fuel)

-- at each offset a name is read, or reading meets a first fault
pub name_outcome : (m : List ℕ) (p : ℕ) → ((n : List ℕ) × (q : ℕ) × NameReads m p n q) ⊎ ((f : NameReadFault) × NameFails m p f)
unfolding NameOutcome OutcomesBelow
name_outcome m p = grind (arith, outcome_by m (p + 257) p p 0 (omega arith) (omega arith))
