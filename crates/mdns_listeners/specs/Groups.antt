-- Which listener each file belongs to. A listener is a file, or all files whose names, without folders, begin with a PREFIX.
use Rattle.std.specs.Prelude.{◌≡◌, ℕ, Bool, false, not, List, [], ◌∷◌, ◌++◌, ◌==◌, Option, Some, None, ◌<◌}
use Rattle.std.specs.{Prelude.{if◌then◌else◌, length, nat_eq, slice_index_or}, List.{list_any, position, starts_with}}

-- a file's name without folders, which is all behind the last `/`
abbrev pub is_slash : ℕ → Bool
is_slash byte = byte == 47

abbrev pub base_name : List ℕ → List ℕ
base_name [] = []
base_name (byte ∷ rest) = if list_any is_slash (byte ∷ rest) then base_name rest else byte ∷ rest

-- the file's name, without folders, begins with the PREFIX
abbrev pub fits : List ℕ → List ℕ → Bool
fits prefix file = starts_with nat_eq (base_name file) prefix

-- a file takes the first PREFIX that fits, counted from 0, if one fits
abbrev pub prefix_of : List (List ℕ) → List ℕ → Option ℕ
prefix_of prefixes file = position (λ prefix. fits prefix file) prefixes

-- the first PREFIX that fits none of the files
abbrev pub unfit_prefix : List (List ℕ) → List (List ℕ) → Option ℕ
unfit_prefix prefixes files = position (λ prefix. not (list_any (fits prefix) files)) prefixes

-- a listener is named as the PREFIX that its files take, or as the one file that takes none
abbrev pub name_by : List (List ℕ) → Option ℕ → List ℕ → List ℕ
name_by prefixes None file = file
name_by prefixes (Some at) file = slice_index_or prefixes at []

-- two files belong to one listener where they take the same PREFIX
abbrev pub is_same : Option ℕ → Option ℕ → Bool
is_same (Some one) (Some other) = one == other
is_same one other = false

abbrev pub is_beside : List (List ℕ) → List ℕ → List ℕ → Bool
is_beside prefixes file other = is_same (prefix_of prefixes file) (prefix_of prefixes other)

-- The names of the listeners whose first file is one of `files`, which follow the files `earlier`.
abbrev pub names_after : List (List ℕ) → List (List ℕ) → List (List ℕ) → List (List ℕ)
names_after prefixes earlier [] = []
names_after prefixes earlier (file ∷ files) =
    (if list_any (is_beside prefixes file) earlier then [] else name_by prefixes (prefix_of prefixes file) file ∷ [])
    ++ names_after prefixes (earlier ++ file ∷ []) files

-- the names of the listeners of all files, in the order of their first files
abbrev pub listener_names : List (List ℕ) → List (List ℕ) → List (List ℕ)
listener_names prefixes files = names_after prefixes [] files

-- the front of a list, up to the first element that passes
abbrev pub before_first : {X : Type 0} → (X → Bool) → List X → List X
before_first test [] = []
before_first test (x ∷ xs) = if test x then [] else x ∷ before_first test xs

-- A listener's position is the number of listeners whose first file stands before its own first file: here of the listener of a
-- file that follows the files `earlier`.
abbrev pub position_of : List (List ℕ) → List (List ℕ) → List ℕ → ℕ
position_of prefixes earlier file =
    length (listener_names prefixes (before_first (is_beside prefixes file) earlier))

abbrev pub positions_after : List (List ℕ) → List (List ℕ) → List (List ℕ) → List ℕ
positions_after prefixes earlier [] = []
positions_after prefixes earlier (file ∷ files) =
    position_of prefixes earlier file ∷ positions_after prefixes (earlier ++ file ∷ []) files

-- for each file the position of its listener
abbrev pub listener_positions : List (List ℕ) → List (List ℕ) → List ℕ
listener_positions prefixes files = positions_after prefixes [] files

-- a file takes the PREFIX at this place
abbrev pub takes : List (List ℕ) → ℕ → List ℕ → Bool
takes prefixes at file = is_same (Some at) (prefix_of prefixes file)

-- the position of the listener that a PREFIX has among those of the files, if one of these takes it
abbrev pub begun_by : List (List ℕ) → List (List ℕ) → ℕ → Option ℕ
begun_by prefixes files at =
    if list_any (takes prefixes at) files
    then Some (length (listener_names prefixes (before_first (takes prefixes at) files)))
    else None

-- These are the names of the files' listeners, and for each PREFIX the position of its listener.
pub record HasBegun (prefixes files : List (List ℕ)) (names : List (List ℕ)) (begun : List (Option ℕ)) : Type 0 where
  pub named : names ≡ listener_names prefixes files
  pub many : length begun ≡ length prefixes
  pub each : (at : ℕ) → at < length prefixes → slice_index_or begun at None ≡ begun_by prefixes files at
  pub inside : (at listener : ℕ) → at < length prefixes → slice_index_or begun at None ≡ Some listener → listener < length names

-- the listeners' names, and the position of each file's listener
pub record Grouped : Type 0 where
  pub names : List (List ℕ)
  pub by_file : List ℕ

abbrev pub grouped : List (List ℕ) → List (List ℕ) → Grouped
grouped prefixes files = record { names = listener_names prefixes files; by_file = listener_positions prefixes files }
