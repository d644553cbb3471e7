-- Rows worked by hand: what the definitions give of a few messages.
use Rattle.std.proofs.Common.{◌≡◌, ◌≤◌, ◌%◌, ℕ, ℤ, pos, negsuc, true, false, List, [], ◌∷◌, Option, Some, None, refl, arith}
use Rattle.mdns_capture.specs.{Limits.{greatest_moment}, declared.moment.Moment.{Moment}}
use Rattle.mdns_survey.specs.declared.reading.Span.{Span}
use Rattle.mdns_listeners.specs.{HeardMessage.{HeardRow}, Numbers.{alone, heard, missed, spans_of_listeners}}
use Rattle.mdns_listeners.specs.{Pairs.{ascending_of, common, differences, meet, pair_rows, quartiles_of}, Senders.{heard_span, senders}}
use Rattle.mdns_listeners.specs.declared.{heard_message.HeardAt.{HeardAt}, pairs.Quartiles.{Quartiles}}

small : (nanos : ℕ) → nanos % 100 ≤ greatest_moment
small nanos = omega arith

-- a moment below 100 nanoseconds
abbrev instant : ℕ → Moment
instant nanos = record { nanos = nanos % 100; limit = small nanos }

abbrev time : ℕ → ℕ → HeardAt
time listener nanos = record { listener = listener; moment = instant nanos }

abbrev span : ℕ → ℕ → Span
span first last = record { first = instant first; last = instant last }

abbrev row : List ℕ → List HeardAt → HeardRow
row message times = record { message = message; times = times }

-- Three messages of two listeners: both heard the first, at 10 and at 7, only listener 0 the second, twice, and only
-- listener 1 the third.
abbrev both_row : HeardRow
both_row = row (4 ∷ 192 ∷ 0 ∷ 2 ∷ 1 ∷ 65 ∷ []) (time 0 10 ∷ time 1 7 ∷ [])

abbrev twice_row : HeardRow
twice_row = row (4 ∷ 192 ∷ 0 ∷ 2 ∷ 1 ∷ 66 ∷ []) (time 0 20 ∷ time 0 21 ∷ [])

abbrev last_row : HeardRow
last_row = row (4 ∷ 192 ∷ 0 ∷ 2 ∷ 2 ∷ 65 ∷ []) (time 1 30 ∷ [])

abbrev rows : List HeardRow
rows = both_row ∷ twice_row ∷ last_row ∷ []

heard-zero : heard 0 rows ≡ 3
heard-zero = refl

heard-one : heard 1 rows ≡ 2
heard-one = refl

alone-zero : alone 0 rows ≡ 1
alone-zero = refl

alone-one : alone 1 rows ≡ 1
alone-one = refl

-- listener 0 has packets until 30, and listener 1 from 7 to 19 and from 25 to 30
missed-zero : missed 0 (span 5 30 ∷ []) rows ≡ 1
missed-zero = refl

missed-one : missed 1 (span 7 19 ∷ span 25 30 ∷ []) rows ≡ 0
missed-one = refl

-- one that has packets up to the moment listened then
missed-at_end : missed 1 (span 7 20 ∷ []) rows ≡ 1
missed-at_end = refl

common-both : common 0 1 rows ≡ 1
common-both = refl

-- the clock of listener 1 is behind
differences-both : differences 0 1 rows ≡ negsuc 2 ∷ []
differences-both = refl

-- a message that one heard twice tells nothing of the clocks
differences-twice : differences 0 1 (row [] (time 0 5 ∷ time 1 6 ∷ time 0 7 ∷ []) ∷ []) ≡ []
differences-twice = refl

-- ---- files

-- the second listener's first file has no packets
files : spans_of_listeners 2 (0 ∷ 1 ∷ 1 ∷ 1 ∷ []) (Some (span 1 2) ∷ None ∷ Some (span 5 6) ∷ Some (span 3 4) ∷ [])
    ≡ record { spans = span 1 2 ∷ []; whole = Some (span 1 2) }
    ∷ record { spans = span 5 6 ∷ span 3 4 ∷ []; whole = Some (span 3 6) } ∷ []
files = refl

-- ---- quartiles

abbrev parts : ℤ → ℤ → ℤ → Option Quartiles
parts ahead low high = Some (record { middle = ahead; low = low; high = high })

quartiles-none : quartiles_of [] ≡ None
quartiles-none = refl

quartiles-one : quartiles_of (pos 4 ∷ []) ≡ parts (pos 4) (pos 4) (pos 4)
quartiles-one = refl

quartiles-two : quartiles_of (negsuc 4 ∷ pos 4 ∷ []) ≡ parts (negsuc 4) (negsuc 4) (pos 4)
quartiles-two = refl

quartiles-three : quartiles_of (pos 1 ∷ pos 2 ∷ pos 3 ∷ []) ≡ parts (pos 2) (pos 1) (pos 3)
quartiles-three = refl

quartiles-four : quartiles_of (pos 1 ∷ pos 2 ∷ pos 3 ∷ pos 4 ∷ []) ≡ parts (pos 2) (pos 1) (pos 4)
quartiles-four = refl

quartiles-five : quartiles_of (pos 1 ∷ pos 2 ∷ pos 3 ∷ pos 4 ∷ pos 5 ∷ []) ≡ parts (pos 3) (pos 2) (pos 4)
quartiles-five = refl

ascending : ascending_of (pos 2 ∷ negsuc 0 ∷ pos 2 ∷ negsuc 6 ∷ []) ≡ negsuc 6 ∷ negsuc 0 ∷ pos 2 ∷ pos 2 ∷ []
ascending = refl

-- ---- pairs

meet-touching : meet (Some (span 1 5)) (Some (span 5 9)) ≡ true
meet-touching = refl

meet-apart : meet (Some (span 1 4)) (Some (span 5 9)) ≡ false
meet-apart = refl

-- nothing in common, but the spans touch
pairs-touching : pair_rows (last_row ∷ [])
    (record { spans = span 1 5 ∷ []; whole = Some (span 1 5) } ∷ record { spans = span 5 9 ∷ []; whole = Some (span 5 9) } ∷ [])
    ≡ record { one = 0; other = 1; common = 0; by = 0; quartiles = None } ∷ []
pairs-touching = refl

-- ---- senders

senders-two : senders rows ≡ (4 ∷ 192 ∷ 0 ∷ 2 ∷ 1 ∷ []) ∷ (4 ∷ 192 ∷ 0 ∷ 2 ∷ 2 ∷ []) ∷ []
senders-two = refl

span-zero : heard_span 0 (both_row ∷ twice_row ∷ []) ≡ Some (span 10 21)
span-zero = refl
