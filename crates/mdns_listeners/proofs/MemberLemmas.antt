-- Values of an array and members of an object, one after another.
use Rattle.std.proofs.{Common.{arith, ◌≡◌, ℕ, ◌+◌, ◌<◌, ◌≤◌, Bool, true, false, List, []}, lemmas.List.{at_drop_more, drop_all}}
use Rattle.std.proofs.{Common.{◌∷◌, ◌++◌, length, drop, get_or, append_assoc, append-nil}, lemmas.Bool.Decides.{nat_tests}}
use Rattle.mdns_browse.specs.Json.{comma_unless, json_object, parted}

-- the end of an object, and of its line
pub object_ended : (old opened mid new : List ℕ) (members : List (List ℕ)) → opened ≡ old ++ 123 ∷ []
    → mid ≡ opened ++ parted true members → new ≡ mid ++ 125 ∷ 10 ∷ [] → new ≡ old ++ (json_object members ++ 10 ∷ [])
object_ended old opened mid new members one two three = rw (three, two, one) (simp append_assoc)

module _ {X : Type 0} (value : X → List ℕ) (values : List X → List (List ℕ)) (none : values [] ≡ [])
    (cons : (x : X) (xs : List X) → values (x ∷ xs) ≡ value x ∷ values xs) where
  pub parted_more : (xs : List X) (i : ℕ) (x : X) (first : Bool) (old new total : List ℕ) → i < length xs → x ≡ get_or xs i x
      → new ≡ old ++ (comma_unless first ++ value x) → old ++ parted first (values (drop i xs)) ≡ total
      → new ++ parted false (values (drop (i + 1) xs)) ≡ total
  unfolding parted
  parted_more xs i x first old new total within is written left =
      grind (arith, append_assoc, at_drop_more (λ (ys : List X). parted first (values ys)) xs i x within)

  pub parted_end : (xs : List X) (i : ℕ) (first : Bool) (old total : List ℕ) → length xs ≤ i
      → old ++ parted first (values (drop i xs)) ≡ total → old ≡ total
  unfolding parted
  parted_end xs i first old total past left = grind (arith, nat_tests, append-nil, drop_all)
