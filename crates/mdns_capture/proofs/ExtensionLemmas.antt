-- Chains of extension headers, one header at a time.
use Rattle.std.proofs.Common.{◌≡◌, refl, ℕ, zero, suc, ◌+◌, ◌*◌, ◌<◌, ◌≤◌, Bool, true, false, ◌||◌, List, []}
use Rattle.std.proofs.{Common.{◌∷◌, length, drop, slice_index, arith}, lemmas.{Bool.Decides.{nat_tests}, List.{take_rest}}}
use Rattle.mdns_capture.specs.Frame.{is_before_fragments, is_fragment_header, leads_to_fragment}

-- the bytes that are left of a header
left_dropped : (next left : ℕ) (bytes : List ℕ) → left ≤ length bytes
    → leads_to_fragment next left bytes ≡ leads_to_fragment next 0 (drop left bytes)
left_dropped next zero bytes whole = refl
left_dropped next (suc left) [] whole = absurd (omega arith)
left_dropped next (suc left) (byte ∷ bytes) whole = left_dropped next left bytes (omega arith)

left_cut : (next left : ℕ) (bytes : List ℕ) → length bytes < left → leads_to_fragment next left bytes ≡ false
left_cut next zero bytes cut = absurd (omega arith)
left_cut next (suc left) [] cut = refl
left_cut next (suc left) (byte ∷ bytes) cut = left_cut next left bytes (omega arith)

-- a header before fragments is no fragment's
no_fragment : (next : ℕ) → is_before_fragments next ≡ true → is_fragment_header next ≡ false
no_fragment next before = grind (arith, nat_tests, before)

pub cut_short : (next : ℕ) (bytes : List ℕ) → is_before_fragments next ≡ true → length bytes < 2 → leads_to_fragment next 0 bytes ≡ false
cut_short next [] before cut = no_fragment next before
cut_short next (after ∷ []) before cut = rw (no_fragment next before, before) refl
cut_short next (after ∷ (count ∷ bytes)) before cut = absurd (omega arith)

pub cut_within : (next size : ℕ) (bytes : List ℕ) → size ≡ 8 * (slice_index bytes 1 + 1) → is_before_fragments next ≡ true
    → length bytes < size → leads_to_fragment next 0 bytes ≡ false
cut_within next size [] is before cut = no_fragment next before
cut_within next size (after ∷ []) is before cut = cut_short next (after ∷ []) before (omega arith)
cut_within next size (after ∷ (count ∷ bytes)) is before cut =
    rw (no_fragment next before, before) (left_cut after (7 + 8 * count) (count ∷ bytes) (omega (arith, is, cut)))

pub one_header : (next size : ℕ) (bytes : List ℕ) → size ≡ 8 * (slice_index bytes 1 + 1) → is_before_fragments next ≡ true
    → 2 ≤ length bytes → size ≤ length bytes
    → leads_to_fragment next 0 bytes ≡ leads_to_fragment (slice_index bytes 0) 0 (drop size bytes)
one_header next size [] is before some whole = absurd (omega arith)
one_header next size (after ∷ []) is before some whole = absurd (omega arith)
one_header next size (after ∷ (count ∷ bytes)) is before some whole =
    let eights : size ≡ suc (7 + 8 * count) = omega (arith, is) in
    rw (no_fragment next before, before, eights)
    (left_dropped after (7 + 8 * count) (count ∷ bytes) (omega (arith, is, whole)))

or_false : (one : Bool) → (one || false) ≡ one
or_false true = refl
or_false false = refl

pub last_header : (next : ℕ) (bytes : List ℕ) → is_before_fragments next ≡ false → leads_to_fragment next 0 bytes ≡ is_fragment_header next
last_header next [] other = refl
last_header next (after ∷ bytes) other = rw other (or_false (is_fragment_header next))

pub ruleset for_leads_to_fragment = (cut_short, cut_within, last_header, one_header, take_rest)
