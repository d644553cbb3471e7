-- What each two listeners heard in common, and how far the clock of the other is ahead of the one's.
use Rattle.std.specs.Prelude.{ℕ, ◌-◌, ◌/◌, ◌==◌, ◌&&◌, ◌||◌, nat_le, nat_lt, if◌then◌else◌, Bool, false, ℤ, pos, ◌-ℤ◌, int_lt}
use Rattle.std.specs.Prelude.{List, [], ◌∷◌, ◌++◌, length, slice_index_or, Option, Some, None}
use Rattle.std.specs.{List.{count_by, enumerate_from, filter, filter_map}, List.Sorted.{IsPermutation, IsSorted}, Ordering.{int_cmp}}
use Rattle.mdns_capture.specs.declared.moment.Moment.{Moment}
use Rattle.mdns_survey.specs.declared.reading.Span.{Span}
use Rattle.mdns_listeners.specs.{HeardMessage.{HeardRow}, Numbers.{FileSpans, has, is_of}, declared.heard_message.HeardAt.{HeardAt}}
use Rattle.mdns_listeners.specs.declared.pairs.{Quartiles.{Quartiles}, PairRow.{PairRow}}

-- how many different messages both heard
abbrev pub common : ℕ → ℕ → List HeardRow → ℕ
common one other rows = count_by (λ row. has one row && has other row) rows

-- the moment of the only one of the times; none where there are none or several
abbrev pub only_moment : List HeardAt → Option Moment
only_moment [] = None
only_moment (at ∷ []) = Some at.moment
only_moment (at ∷ more ∷ others) = None

-- when the listener heard the message, if it heard it exactly once
abbrev pub once : ℕ → HeardRow → Option Moment
once listener row = only_moment (filter (is_of listener) row.times)

-- how many nanoseconds the other moment is later than the one, where there are both
abbrev pub nanos_ahead : Option Moment → Option Moment → Option ℤ
nanos_ahead None other = None
nanos_ahead (Some one) None = None
nanos_ahead (Some one) (Some other) = Some (pos other.nanos -ℤ pos one.nanos)

-- how much later the other listener heard the message than the one, if each heard it exactly once
abbrev pub difference : ℕ → ℕ → HeardRow → Option ℤ
difference one other row = nanos_ahead (once one row) (once other row)

-- how much later the other heard each message that both heard exactly once, in the order of the messages
abbrev pub differences : ℕ → ℕ → List HeardRow → List ℤ
differences one other rows = filter_map (difference one other) rows

-- an ascending list with one more number
abbrev pub with_number : ℤ → List ℤ → List ℤ
with_number x [] = x ∷ []
with_number x (y ∷ ys) = if int_lt y x then y ∷ with_number x ys else x ∷ y ∷ ys

-- the numbers in ascending order
abbrev pub ascending_of : List ℤ → List ℤ
ascending_of [] = []
ascending_of (x ∷ xs) = with_number x (ascending_of xs)

-- the differences of two listeners in ascending order: `ascending_of` gives this list
pub record AreAhead (one other : ℕ) (rows : List HeardRow) (ahead : List ℤ) : Type 0 where
  pub same : IsPermutation (differences one other rows) ahead
  pub ascending : IsSorted int_cmp ahead

-- the items of an ascending list at the half, at the first quarter and at the last quarter, where this is its last index
abbrev pub quartiles_to : List ℤ → ℕ → Quartiles
quartiles_to ahead last = record {
  middle = slice_index_or ahead (last / 2) (pos 0);
  low = slice_index_or ahead (last / 4) (pos 0);
  high = slice_index_or ahead (last - last / 4) (pos 0);
}

-- The median and the quartiles of an ascending list. The median of an even number of items is the lesser of the two in the
-- middle. None of no items.
abbrev pub quartiles_of : List ℤ → Option Quartiles
quartiles_of ahead = if length ahead == 0 then None else Some (quartiles_to ahead (length ahead - 1))

-- whether the time spans have a moment in common; one that is missing has none
abbrev pub meet : Option Span → Option Span → Bool
meet None other = false
meet (Some one) None = false
meet (Some one) (Some other) =
    nat_le one.first.nanos other.last.nanos && nat_le other.first.nanos one.last.nanos

-- the row of two listeners
abbrev pub pair_row : List HeardRow → ℕ → ℕ → PairRow
pair_row rows one other = record {
  one = one;
  other = other;
  common = common one other rows;
  by = length (differences one other rows);
  quartiles = quartiles_of (ascending_of (differences one other rows));
}

-- whether two listeners have a row: they heard a message in common, or their packets' time spans meet
abbrev pub is_pair : List HeardRow → ℕ × FileSpans → ℕ × FileSpans → Bool
is_pair rows one other = nat_lt 0 (common one.0 other.0 rows) || meet one.1.whole other.1.whole

-- the row of two listeners, if they have one
abbrev pub pair_rows_at : List HeardRow → ℕ × FileSpans → ℕ × FileSpans → List PairRow
pair_rows_at rows one other = if is_pair rows one other then pair_row rows one.0 other.0 ∷ [] else []

-- the rows of a listener with each of the others
abbrev pub pair_rows_with : List HeardRow → ℕ × FileSpans → List (ℕ × FileSpans) → List PairRow
pair_rows_with rows one [] = []
pair_rows_with rows one (other ∷ others) = pair_rows_at rows one other ++ pair_rows_with rows one others

-- the rows of each listener with each later one
abbrev pub pair_rows_of : List HeardRow → List (ℕ × FileSpans) → List PairRow
pair_rows_of rows [] = []
pair_rows_of rows (one ∷ others) = pair_rows_with rows one others ++ pair_rows_of rows others

-- the rows of all pairs, in order
abbrev pub pair_rows : List HeardRow → List FileSpans → List PairRow
pair_rows rows spans = pair_rows_of rows (enumerate_from 0 spans)
