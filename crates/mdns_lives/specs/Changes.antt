-- Which lives are changes: those with which a record came, or came back, after another of its record set had come; and which
-- lives are listed, of all and for changes: only those that meet a window.
use Rattle.std.specs.Prelude.{◌≡◌, ℕ, Bool, true, false, ◌&&◌, ◌||◌, ◌==◌, not, nat_le, nat_lt, if◌then◌else◌}
use Rattle.std.specs.Prelude.{List, [], ◌∷◌, ◌++◌, map, Option, None, Some, unwrap_or}
use Rattle.std.specs.{List.{filter, flat_map, list_all, list_any}, Ordering.{is_eq}}
use Rattle.mdns_message.specs.{RecordSet.{RecordSet}, Resource.{number_of, set_key_cmp, set_key_of}}
use Rattle.mdns_join.specs.declared.latest.Latest.{Latest}
use Rattle.mdns_lives.specs.declared.life.{Life.{Life}, Which.{Which}, Which.TheVariants.{All, Changes}}
use Rattle.mdns_lives.specs.declared.{lives.RecordLives.{RecordLives}, window.Window.{Window}}
use Rattle.mdns_lives.specs.{Lives.{AreApart}, LentLives.{row_lent}, Window.{in_window, meets}}

-- when these lives began
abbrev pub begins_of : List Life → List ℕ
begins_of lives = map (λ (life : Life). life.from.nanos) lives

-- the record is a PTR record, which stands beside the others of its set (RFC 6763, section 4.1)
abbrev pub is_pointer_record : Latest → Bool
is_pointer_record last = number_of last.resource.body == 12

-- the record is one of the set
abbrev pub is_of_set : RecordSet → Latest → Bool
is_of_set set last = is_eq (set_key_cmp set (set_key_of last.resource))

-- the rows of the set's records
abbrev pub rows_of_set : RecordSet → List (Latest × List Life) → List (Latest × List Life)
rows_of_set set rows = filter (λ (row : Latest × List Life). is_of_set set row.0) rows

-- when the lives of these rows began
abbrev pub begins_in : List (Latest × List Life) → List ℕ
begins_in rows = flat_map (λ (row : Latest × List Life). begins_of row.1) rows

-- the moment is before the life began, and after the beginning of each of the lives that began before it
abbrev pub is_between : List Life → Life → ℕ → Bool
is_between lives life m =
    nat_lt m life.from.nanos
    && list_all (λ (own : Life). nat_le life.from.nanos own.from.nanos || nat_lt own.from.nanos m) lives

-- One of the row's lives is a change that began in the window, where the lives of its set began at these moments: a life of the
-- set began before this one did, but after each earlier life of the record itself, so it is a life of another record.
abbrev pub comes_back : Window → List ℕ → Latest × List Life → Bool
comes_back window begun row =
    list_any (λ (life : Life). in_window window life.from && list_any (is_between row.1 life) begun) row.1

-- the rows are those of the set, and a life of one of them is a change that began in the window; of PTR records none is
abbrev pub has_change : Window → RecordSet → List (Latest × List Life) → Bool
has_change window set own = not (set.number == 12) && list_any (comes_back window (begins_in own)) own

-- a record set changed in the window, by the rows of all records
abbrev pub has_changed : Window → List (Latest × List Life) → RecordSet → Bool
has_changed window rows set = has_change window set (rows_of_set set rows)

-- a row with those of its lives that meet the window, or with none
abbrev pub kept_if : Window → Bool → Latest × List Life → Latest × List Life
kept_if window kept row = (row.0, if kept then filter (meets window) row.1 else [])

-- each row with those of its lives that meet the window
abbrev pub met_in : Window → List (Latest × List Life) → List (Latest × List Life)
met_in window rows = map (kept_if window true) rows

-- each row with those of its lives that meet the window if its record set changed in it, and with none otherwise
abbrev pub changes_in : Window → List (Latest × List Life) → List (Latest × List Life)
changes_in window rows =
    map (λ (row : Latest × List Life). kept_if window (has_changed window rows (set_key_of row.0.resource)) row) rows

-- the rows with the lives that are chosen
abbrev pub chosen : Which → Window → List (Latest × List Life) → List (Latest × List Life)
chosen All window rows = met_in window rows
chosen Changes window rows = changes_in window rows

-- ---- one record set after another

-- there are no rows, or the record is one more of their set, which may change
abbrev pub goes_on : List (Latest × List Life) → Latest → Bool
goes_on [] last = true
goes_on (row ∷ rows) last = not (is_pointer_record row.0) && is_of_set (set_key_of row.0.resource) last

-- The rows with the lives that are chosen, of each set by its rows alone, which stand together, and of each PTR record alone.
-- The first of them come after other rows of their set.
abbrev pub by_sets : Window → List (Latest × List Life) → List (Latest × List Life) → List (Latest × List Life)
by_sets window set [] = changes_in window set
by_sets window set (row ∷ rows) =
    if goes_on set row.0 then by_sets window (set ++ row ∷ []) rows else changes_in window set ++ by_sets window (row ∷ []) rows

-- the row that may be there
abbrev pub maybe_row : Option RecordLives → List (Latest × List Life)
maybe_row None = []
maybe_row (Some row) = row_lent row ∷ []

-- the record that may be next
abbrev pub maybe_next : Option (Latest × List Life) → List (Latest × List Life)
maybe_next None = []
maybe_next (Some row) = row ∷ []

-- what is left after a set: the row after it, and those after that one, or nothing
abbrev pub left_after : Window → List (Latest × List Life) → Option (List (Latest × List Life)) → List (Latest × List Life)
left_after window next None = []
left_after window next (Some rows) = by_sets window next rows

-- what is left of a walk, of which a set was read
abbrev pub left_of : Which → Window → Bool → (set next : List (Latest × List Life)) → Option (List (Latest × List Life))
    → List (Latest × List Life)
left_of All window changed set next rows = met_in window (unwrap_or rows [])
left_of Changes window changed set next rows = map (kept_if window changed) set ++ left_after window next rows

-- the rows are of the set, and the lives of each are apart
abbrev pub AreOf : RecordSet → List (Latest × List Life) → Type 0
AreOf set [] = Unit {0}
AreOf set (row ∷ rows) = (set_key_of row.0.resource ≡ set) × AreApart row.1 × AreOf set rows

-- they are of one set, which may change
abbrev pub AreOfOne : List (Latest × List Life) → Type 0
AreOfOne [] = ⊥
AreOfOne (row ∷ rows) = (is_pointer_record row.0 ≡ false) × AreOf (set_key_of row.0.resource) (row ∷ rows)

-- those of the moments that are later than this one
abbrev pub after : ℕ → List ℕ → List ℕ
after from moments = filter (λ m. nat_lt from m) moments
