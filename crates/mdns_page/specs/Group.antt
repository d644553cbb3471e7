-- Groups of rows, and rows.
use Rattle.std.specs.Prelude.{◌≡◌, ℕ, suc, Bool, true, if◌then◌else◌, List, [], ◌∷◌, ◌++◌, codes}
use Rattle.mdns_browse.specs.Services.{same_text}

-- ---- rows in groups by type, which is the owner of a record that gives an instance

-- groups with a row more before them: it joins the first one, if it is of that type
abbrev pub grouped_with : {R : Type 0} → (R → List ℕ) → R → List (List R) → List (List R)
grouped_with owner row [] = (row ∷ []) ∷ []
grouped_with owner row ([] ∷ groups) = (row ∷ []) ∷ groups
grouped_with owner row ((other ∷ others) ∷ groups) =
    if same_text (owner row) (owner other) then (row ∷ other ∷ others) ∷ groups else (row ∷ []) ∷ (other ∷ others) ∷ groups

-- the rows in groups by type: rows of one type that stand together are a group; case doesn't count (RFC 6762, section 16)
unfoldable pub grouped : {R : Type 0} → (R → List ℕ) → List R → List (List R)
grouped owner [] = []
grouped owner (row ∷ rows) = grouped_with owner row (grouped owner rows)

-- each row of a group is of the type of the one before it
abbrev pub AreOfOneType : {R : Type 0} → (R → List ℕ) → List R → Type 0
AreOfOneType owner [] = ⊥
AreOfOneType owner (row ∷ []) = Unit {0}
AreOfOneType owner (row ∷ other ∷ rows) = (same_text (owner row) (owner other) ≡ true) × AreOfOneType owner (other ∷ rows)

-- no group is empty, and each is of one type
abbrev pub AreGroups : {R : Type 0} → (R → List ℕ) → List (List R) → Type 0
AreGroups owner [] = Unit {0}
AreGroups owner (rows ∷ groups) = AreOfOneType owner rows × AreGroups owner groups

-- the owner of the first row
abbrev pub first_owner : {R : Type 0} → (R → List ℕ) → List R → List ℕ
first_owner owner [] = []
first_owner owner (row ∷ rows) = owner row

-- how many owners at the front are equal to this one, each compared with the one before it
abbrev pub following : List ℕ → List (List ℕ) → ℕ
following owner [] = 0
following owner (other ∷ others) = if same_text owner other then suc (following other others) else 0

-- how many rows with these owners the first group has
abbrev pub leading : List (List ℕ) → ℕ
leading [] = 0
leading (owner ∷ owners) = suc (following owner owners)

-- ---- groups and rows

-- the axis with the labels of its ticks
unfoldable pub axis_picture : List ℕ
axis_picture = codes "<svg class=\"x\" aria-hidden=\"true\"><use href=\"#x\"/></svg>"

-- a group: its name, what is in the middle of its heading, words about it, and its rows, which show at first if it is opened
abbrev pub group : (opened : Bool) → (name middle words items : List ℕ) → List ℕ
group opened name middle words items =
    (if opened then codes "<details open><summary>" else codes "<details><summary>") ++ name ++ middle ++ codes "<small>" ++ words
    ++ codes "</small></summary><ul>\n" ++ items ++ codes "</ul></details>\n"

-- a row: its name, its picture or what else is in the middle, and words
abbrev pub item : (name middle last : List ℕ) → List ℕ
item name middle last = codes "<li><div>" ++ name ++ codes "</div>" ++ middle ++ codes "<div>" ++ last ++ codes "</div></li>\n"
