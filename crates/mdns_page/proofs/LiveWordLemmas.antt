-- Strings of a text, one a line, and an address.
use Rattle.std.proofs.Common.{◌≡◌, refl, ap, arith, ℕ, ◌==◌, Bool, true, false, if◌then◌else◌, List, []}
use Rattle.std.proofs.{Common.{◌∷◌, ◌++◌, codes, length}, lemmas.Bool.Decides.{nat_tests}, lemmas.List.{append-nil, append_assoc}}
use Rattle.std.specs.List.{flat_map, join_by}
use Rattle.mdns_message.specs.{Borrowed.{BorrowedBody, body_lent}, Parts.{address_of}, TextData.{strings_of}}
use Rattle.mdns_message.specs.declared.body.RecordData.TheVariants as body
use Rattle.mdns_browse.specs.{Json.{first_after}, RecordShown.{shown_string, shown_strings}, laws.JsonPieces.{first_after-append}}
use Rattle.mdns_page.specs.LiveSheet.{lines}

-- the words of one string, and those of the others
strings-cons : (bytes string after : List ℕ) → strings_of bytes ≡ string ∷ strings_of after
    → shown_strings bytes ≡ shown_string string ++ shown_strings after
unfolding shown_strings
strings-cons bytes string after split = rw split refl

first_after-false : {X : Type 0} (xs : List X) → first_after false xs ≡ false
first_after-false [] = refl
first_after-false (x ∷ xs) = refl

lines-append : (first : Bool) (xs ys : List (List ℕ)) → lines first (xs ++ ys) ≡ lines first xs ++ lines (first_after first xs) ys
lines-append first [] ys = refl
lines-append first (x ∷ xs) ys = grind (arith, first_after-false, append_assoc, lines-append false xs ys)

-- a string written takes its word from what is left to write
pub lines_left-step : (old new total bytes string after : List ℕ) (first next : Bool) → strings_of bytes ≡ string ∷ strings_of after
    → new ≡ old ++ lines first (shown_string string) → next ≡ first_after first (shown_string string)
    → old ++ lines first (shown_strings bytes) ≡ total → new ++ lines next (shown_strings after) ≡ total
lines_left-step old new total bytes string after first next split written flag left =
    grind (arith, append_assoc, strings-cons bytes string after split, lines-append first (shown_string string) (shown_strings after))

pub first_left-step : (bytes string after : List ℕ) (first next last : Bool) → strings_of bytes ≡ string ∷ strings_of after
    → next ≡ first_after first (shown_string string) → first_after first (shown_strings bytes) ≡ last
    → first_after next (shown_strings after) ≡ last
first_left-step bytes string after first next last split flag left =
    grind (arith, strings-cons bytes string after split, first_after-append first (shown_string string) (shown_strings after))

-- with no bytes left nothing is left to write
pub lines_left-end : (old total bytes : List ℕ) (first : Bool) → bytes ≡ [] → old ++ lines first (shown_strings bytes) ≡ total → old ≡ total
unfolding shown_strings
lines_left-end old total bytes first none left = grind (arith, append-nil)

pub first_left-end : (bytes : List ℕ) (first last : Bool) → bytes ≡ [] → first_after first (shown_strings bytes) ≡ last → first ≡ last
unfolding shown_strings
first_left-end bytes first last none left = grind arith

-- ---- a paragraph of words

further-lines : (words : List (List ℕ)) → lines false words ≡ flat_map (λ word. (10 ∷ []) ++ word) words
further-lines [] = refl
further-lines (word ∷ words) = ap (λ text. (10 ∷ word) ++ text) (further-lines words)

pub lines-joined : (words : List (List ℕ)) → lines true words ≡ join_by (λ word. word) (10 ∷ []) words
lines-joined [] = refl
lines-joined (word ∷ words) = ap (λ text. word ++ text) (further-lines words)

pub some-items : {X : Type 0} (x : X) (xs : List X) → (length (x ∷ xs) == 0) ≡ false
some-items x xs = grind (arith, nat_tests)

module _ (say : List ℕ → List ℕ) where
  abbrev paragraph : List (List ℕ) → List ℕ
  paragraph words = codes "<p>" ++ say (join_by (λ word. word) (10 ∷ []) words) ++ codes "</p>"

  pub none-paragraph : (words : List (List ℕ)) → first_after true words ≡ true → (if length words == 0 then [] else paragraph words) ≡ []
  none-paragraph [] none = refl
  none-paragraph (word ∷ words) none = absurd cc

  pub some-paragraph : (words : List (List ℕ)) → first_after true words ≡ false
      → (if length words == 0 then [] else paragraph words) ≡ paragraph words
  some-paragraph [] some = absurd cc
  some-paragraph (word ∷ words) some = rw (some-items word words) refl

-- ---- an address

pub address_lent : (b : BorrowedBody) → address_of b ≡ address_of (body_lent b)
address_lent (body.A octets) = refl
address_lent (body.Aaaa octets) = refl
address_lent (body.Ptr target) = refl
address_lent (body.Txt strings) = refl
address_lent (body.Srv priority weight port target) = refl

-- WHAT FUNCTIONS ARE PROVED BY

pub ruleset for_push_text = (lines-joined, none-paragraph, some-paragraph)
