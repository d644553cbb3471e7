-- Markup, byte by byte.
use Rattle.std.proofs.Common.{◌≡◌, refl, ap, subst, ℕ, zero, suc, ◌+◌, ◌<◌, ◌==◌, ◌||◌, Bool, true}
use Rattle.std.proofs.Common.{false, not, ◌&&◌, cond, List, [], ◌∷◌, ◌++◌, codes, length, take, drop, get_or, add-zero, arith}
use Rattle.std.proofs.{Common.{append_assoc}, lemmas.{Bool.Decides.{nat_tests}, Grind.{flat_map-append}, Str.{IsCharBoundary-after_ascii}}}
use Rattle.std.proofs.lemmas.{List.{get_or-drop, length-drop, take-append-drop, take_more}, List.Folds.{list_all-append}, List.Sums.{AllPass-from_list_all}}
use Rattle.std.specs.{Bool.{IsTrue}, List.{All, list_all}, Str.{IsCharBoundary, IsUtf8}}
use Rattle.mdns_page.specs.Html.{html_byte, html_text, is_marked, references, BeginsReference, IsHarmless}
use Rattle.std.proofs.lemmas.List.{append-nil}

pub html_text-append : (xs ys : List ℕ) → html_text (xs ++ ys) ≡ html_text xs ++ html_text ys
unfolding html_text
html_text-append xs ys = flat_map-append html_byte xs ys

pub html_text_nil : (bytes : List ℕ) → length bytes ≡ 0 → html_text bytes ≡ []
unfolding html_text
html_text_nil [] none = refl
html_text_nil (b ∷ bytes) none = absurd (omega arith)

html_text-one : (b : ℕ) → is_marked b ≡ false → html_text (b ∷ []) ≡ b ∷ []
unfolding html_text
html_text-one b is = grind (arith, nat_tests)

-- ---- a run of plain bytes

-- one plain byte more
pub plain_more : (bytes : List ℕ) (i : ℕ) → i < length bytes → is_marked (get_or bytes i 0) ≡ false
    → html_text (take i bytes) ≡ take i bytes → html_text (take (i + 1) bytes) ≡ take (i + 1) bytes
plain_more bytes i within is before = grind (arith, take_more bytes i 0 within, html_text-append, html_text-one (get_or bytes i 0) is)

-- what is left to write after a run of plain bytes
pub run-plain : (old mid text bytes plain rest : List ℕ) (len : ℕ) → mid ≡ old ++ plain → bytes ≡ text
    → html_text (take len bytes) ≡ take len bytes → plain ≡ take len text → rest ≡ drop len text
    → mid ++ html_text rest ≡ old ++ html_text text
run-plain old mid text bytes plain rest len first same is front back =
    grind (arith, take-append-drop len text, html_text-append (take len text) (drop len text), append_assoc)

html_text-first : (rest : List ℕ) → 0 < length rest → html_text rest ≡ html_byte (get_or rest 0 0) ++ html_text (drop 1 rest)
unfolding html_text
html_text-first [] some = absurd (omega arith)
html_text-first (x ∷ rest) some = refl

-- and after the byte that follows it
pub run-marked : (old mid new text rest others reference after : List ℕ) → mid ++ html_text rest ≡ old ++ html_text text
    → new ≡ mid ++ reference → reference ≡ html_byte (get_or others 0 0) → others ≡ rest → after ≡ drop 1 rest → 0 < length rest
    → new ++ html_text after ≡ old ++ html_text text
run-marked old mid new text rest others reference after before second is same left some = grind (arith, append_assoc, html_text-first)

marked-ascii : (b : ℕ) → IsTrue (is_marked b) → b < 128
marked-ascii b is = grind (arith, nat_tests)

-- a text may be cut after a byte that is marked
pub cut-after : (text bytes rest others : List ℕ) (len : ℕ) → bytes ≡ text → rest ≡ drop len text → others ≡ rest → IsUtf8 others
    → (len < length bytes → IsTrue (is_marked (get_or bytes len 0))) → 0 < length rest → IsCharBoundary rest 1
cut-after text bytes rest others len same back also utf8 marked some =
    let within : len < length text = omega (arith, ap length back, length-drop len text) in
    let is : IsTrue (is_marked (get_or bytes len 0)) = marked (omega (arith, ap length same)) in
    let small : get_or bytes len 0 < 128 = marked-ascii (get_or bytes len 0) is in
    let first : get_or rest 0 0 ≡ get_or bytes len 0
    = grind (arith, get_or-drop, add-zero) in
    let text-is : IsUtf8 rest = subst (λ (t : List ℕ). IsUtf8 t) also utf8 in
    IsCharBoundary-after_ascii rest 0 text-is some (omega (arith, first, small))

-- ---- text of the network within markup

-- the byte neither begins nor ends a tag or the value of an attribute
abbrev is_harmless : ℕ → Bool
is_harmless b = not ((b == 60) || (b == 62) || (b == 34) || (b == 39))

harmless-one : (b : ℕ) → is_harmless b ≡ true → IsHarmless b
harmless-one b is = grind (arith, nat_tests)

harmless-byte : (b : ℕ) → list_all is_harmless (html_byte b) ≡ true
harmless-byte b = grind (arith, nat_tests)

harmless-all : (text : List ℕ) → list_all is_harmless (html_text text) ≡ true
unfolding html_text
harmless-all [] = refl
harmless-all (b ∷ text) = grind (arith, list_all-append, harmless-byte, harmless-all text)

pub harmless_text : (text : List ℕ) → All IsHarmless (html_text text)
harmless_text text k d within =
    harmless-one (get_or (html_text text) k d) (AllPass-from_list_all is_harmless (html_text text) (harmless-all text) k d within)

one-of_both : (one others : Bool) → (one && others) ≡ true → others ≡ true
one-of_both true others is = is
one-of_both false others is = cc

-- each `&` of the bytes begins a reference
abbrev Refer : List ℕ → Type 0
Refer [] = Unit {0}
Refer (b ∷ bytes) = (b ≡ 38 → BeginsReference (b ∷ bytes)) × Refer bytes

have_none : List ℕ → Bool
have_none [] = true
have_none (b ∷ bytes) = not (b == 38) && have_none bytes

refer-one : (b : ℕ) (others : Bool) → (not (b == 38) && others) ≡ true → b ≡ 38 → ⊥
refer-one b others is e = absurd (grind (arith, nat_tests))

refer-none : (bytes rest : List ℕ) → have_none bytes ≡ true → Refer rest → Refer (bytes ++ rest)
unfolding have_none
refer-none [] rest is after = after
refer-none (b ∷ bytes) rest is after =
    grind (arith, refer-one, refer-none bytes rest (one-of_both (not (b == 38)) (have_none bytes) is) after)

refer-reference : (k : ℕ) (tail rest : List ℕ) → k < length references → get_or references k (38 ∷ tail) ≡ 38 ∷ tail
    → have_none tail ≡ true → Refer rest → Refer ((38 ∷ tail) ++ rest)
refer-reference k tail rest within at is after = grind (arith, refer-none)

refer-byte : (b : ℕ) (rest : List ℕ) → Refer rest → Refer (html_byte b ++ rest)
unfolding have_none references
refer-byte b rest after = go (b == 38) (b == 60) (b == 62) (b == 34) (b == 39) refl
  where
    go : (amp less more quote apostrophe : Bool) → (b == 38) ≡ amp
        → Refer ((cond amp (codes "&amp;") (cond less (codes "&lt;") (cond more (codes "&gt;") (cond quote (codes "&quot;")
        (cond apostrophe (codes "&#39;") (b ∷ [])))))) ++ rest)
    go true less more quote apostrophe is = refer-reference 0 (codes "amp;") rest (omega arith) refl refl after
    go false true more quote apostrophe is = refer-reference 1 (codes "lt;") rest (omega arith) refl refl after
    go false false true quote apostrophe is = refer-reference 2 (codes "gt;") rest (omega arith) refl refl after
    go false false false true apostrophe is = refer-reference 3 (codes "quot;") rest (omega arith) refl refl after
    go false false false false true is = refer-reference 4 (codes "#39;") rest (omega arith) refl refl after
    go false false false false false is = refer-none (b ∷ []) rest (rw is refl) after

refer-text : (text : List ℕ) → Refer (html_text text)
unfolding html_text
refer-text [] = tt
refer-text (b ∷ text) = refer-byte b (html_text text) (refer-text text)

refer-at : (bytes : List ℕ) (k : ℕ) → Refer bytes → get_or bytes k 0 ≡ 38 → BeginsReference (drop k bytes)
refer-at [] k all at = absurd (omega arith)
refer-at (b ∷ bytes) zero all at = all.0 at
refer-at (b ∷ bytes) (suc k) all at = refer-at bytes k all.1 at

pub references_text : (text : List ℕ) (k : ℕ) → get_or (html_text text) k 0 ≡ 38 → BeginsReference (drop k (html_text text))
references_text text k at = refer-at (html_text text) k (refer-text text) at

-- WHAT FUNCTIONS ARE PROVED BY

pub ruleset for_push_html = (html_text_nil, append-nil)

pub ruleset for_push_run = (cut-after, run-marked, run-plain)
