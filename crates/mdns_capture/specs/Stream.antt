-- How many bytes calls take from a reader, and how many of the calls failed, where these are known.
use Rattle.std.specs.{Prelude.{◌≡◌, ℕ, ◌+◌, ◌≤◌, List, length, Option}, Option.{option_map}, Io.KnownBytes.{Consumes}}

-- at most so many bytes were taken
abbrev pub TakesAtMost : Option (List ℕ) → Option (List ℕ) → ℕ → Type 0
TakesAtMost old new most = (bytes : List ℕ) × Consumes old new bytes × (length bytes ≤ most)

-- one call more failed, where it is known how many did
abbrev pub OneMoreFailed : Option ℕ → Option ℕ → Type 0
OneMoreFailed old new = new ≡ option_map (λ count. count + 1) old
