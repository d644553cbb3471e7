-- Counts in words.
use Rattle.std.specs.Prelude.{ℕ, ◌%◌, ◌==◌, ◌&&◌, nat_lt, if◌then◌else◌, List, [], ◌∷◌, ◌++◌, length}
use Rattle.std.specs.Fmt.{decimal}

-- digits in groups of three, counted from the right, with commas between them
abbrev pub in_threes : List ℕ → List ℕ
in_threes [] = []
in_threes (digit ∷ digits) =
    digit ∷ (if nat_lt 0 (length digits) && (length digits % 3 == 0) then 44 ∷ in_threes digits else in_threes digits)

-- a number with commas between thousands: `1,234`
unfoldable pub commas : ℕ → List ℕ
commas number = in_threes (decimal number)

-- a count, and the word for one or the word for more
unfoldable pub count_text : ℕ → (one many : List ℕ) → List ℕ
count_text count one many = commas count ++ 32 ∷ (if count == 1 then one else many)
