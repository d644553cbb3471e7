-- Words with one space between them.
use Rattle.std.proofs.Common.{arith, ◌≡◌, ℕ, ◌<◌, List, [], ◌∷◌, length, slice_index, subst}
use Rattle.std.specs.List.{remove_range}
use Rattle.mdns_browse.specs.{Csv.{joined}, RecordText.{spaced}}

-- words that stand each after a space, without the first space
pub joined-some : (texts : List (List ℕ)) (old new : List ℕ) → 0 < length old
    → (slice_index old 0 < 128 → new ≡ remove_range old 0 1) → old ≡ spaced texts → new ≡ joined texts
unfolding joined
joined-some [] old new some cut is = let none : 0 < 0 = subst (λ text. 0 < length text) is some in absurd (omega (arith, none))
joined-some (text ∷ texts) old new some cut is = grind arith

pub joined-none : (texts : List (List ℕ)) (old : List ℕ) → length old ≡ 0 → old ≡ spaced texts → old ≡ joined texts
unfolding joined
joined-none [] old none is = is
joined-none (text ∷ texts) old none is = grind arith
