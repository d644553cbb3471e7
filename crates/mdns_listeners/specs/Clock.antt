-- What the messages that two listeners heard say of the second listener's clock.
use Rattle.std.specs.Prelude.{ℕ, ◌==◌, Bool, ◌&&◌, nat_le, not, if◌then◌else◌, ℤ, ◌-ℤ◌, int_lt, neg_ℤ, unsigned_abs, List}
use Rattle.std.specs.{Prelude.{[], ◌∷◌, ◌++◌, Option, Some, None, codes}, Fmt.{decimal}}
use Rattle.mdns_listeners.specs.{declared.pairs.PairRow.{PairRow}, declared.pairs.Quartiles.{Quartiles}, Seconds.{signed_text}}

-- A tenth of the second in which goodbyes and cache flushes act (RFC 6762, sections 10.1 and 10.2), in nanoseconds.
abbrev pub clock_limit : ℕ
clock_limit = 100000000

-- it is within the limit of 0, before or after
abbrev pub is_near : ℤ → Bool
is_near nanos = nat_le (unsigned_abs nanos) clock_limit

-- the clocks agree: the median and the quartiles are near 0
abbrev pub is_one_clock : Quartiles → Bool
is_one_clock quartiles = is_near quartiles.middle && is_near quartiles.low && is_near quartiles.high

-- the clocks stay equally far apart: the quartiles are near the median
abbrev pub is_steady : Quartiles → Bool
is_steady quartiles = is_near (quartiles.low -ℤ quartiles.middle) && is_near (quartiles.high -ℤ quartiles.middle)

-- So many messages that were heard once in both tell how far the clocks are apart. One or two don't: they may be messages that were
-- sent again with the same bytes, of which one listener heard the first sending alone, and the other the second.
abbrev pub are_enough : ℕ → Bool
are_enough by = nat_le 3 by

abbrev pub messages_word : ℕ → List ℕ
messages_word count = if count == 1 then codes "message" else codes "messages"

abbrev pub messages_text : ℕ → List ℕ
messages_text count = decimal count ++ 32 ∷ messages_word count

-- by how many messages that is known
unfoldable pub by_words : ℕ → List ℕ
by_words by = codes " s ahead, by " ++ messages_text by ++ codes " heard once in both"

-- the command that shifts a file so far that its clock agrees
unfoldable pub shift_words : List ℕ → ℤ → List ℕ
shift_words file ahead = codes ": editcap -F nsecpcap -t " ++ signed_text (neg_ℤ ahead) ++ (32 ∷ file ++ codes " shifted.pcap")

-- ---- what is said of the clock where some messages were heard once in both files; `file` is the second one

unfoldable pub steady_words : ℕ → ℤ → List ℕ
steady_words by ahead = signed_text ahead ++ by_words by

unfoldable pub one_clock_words : ℕ → ℤ → List ℕ
one_clock_words by ahead = codes "one clock: " ++ steady_words by ahead

unfoldable pub ahead_words : List ℕ → ℕ → ℤ → List ℕ
ahead_words file by ahead = steady_words by ahead ++ shift_words file ahead

-- from how far to how far it is ahead; one number where both are the same
unfoldable pub between_text : (low high : ℤ) → List ℕ
between_text low high = signed_text low ++ (if int_lt low high then codes " to " ++ signed_text high else [])

unfoldable pub between_words : (front : List ℕ) → ℕ → Quartiles → List ℕ
between_words front by quartiles = front ++ between_text quartiles.low quartiles.high ++ by_words by

abbrev pub unsteady_words : ℕ → Quartiles → List ℕ
unsteady_words by quartiles = between_words (codes "unsteady: ") by quartiles

abbrev pub too_few_words : ℕ → Quartiles → List ℕ
too_few_words by quartiles = between_words (codes "too few to tell: ") by quartiles

abbrev pub quartile_words : List ℕ → ℕ → Quartiles → List ℕ
quartile_words file by quartiles =
    if is_one_clock quartiles then one_clock_words by quartiles.middle
    else (if not (are_enough by) then too_few_words by quartiles
    else (if is_steady quartiles then ahead_words file by quartiles.middle else unsteady_words by quartiles))

-- ---- and where none were, or there are no messages in common

abbrev pub unknown_words : List ℕ
unknown_words = codes "can't tell: no message came once in both"

abbrev pub nothing_words : List ℕ
nothing_words = codes "nothing in common: another link, or another filter?"

abbrev pub known_words : List ℕ → ℕ → Option Quartiles → List ℕ
known_words file by None = unknown_words
known_words file by (Some quartiles) = quartile_words file by quartiles

-- what is said of the second listener's clock, whose name is written as given
unfoldable pub clock_words : List ℕ → PairRow → List ℕ
clock_words file row = if row.common == 0 then nothing_words else known_words file row.by row.quartiles
