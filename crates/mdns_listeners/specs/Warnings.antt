-- Lines that warn that two listeners' clocks don't agree, and one of all pairs of which nothing shows whether they do.
use Rattle.std.specs.Prelude.{ℕ, ◌==◌, ◌||◌, ◌&&◌, Bool, false, not, if◌then◌else◌, List, ◌∷◌, [], ◌++◌, length, Option, Some, None}
use Rattle.std.specs.{Prelude.{codes}, Fmt.{decimal}, List.{count_by, flat_map}}
use Rattle.mdns_message.specs.TextData.{string_text}
use Rattle.mdns_listeners.specs.Clock.{are_enough, is_one_clock, is_steady, nothing_words, steady_words, unknown_words, unsteady_words}
use Rattle.mdns_listeners.specs.{NamedSender.{listener_name_at}, declared.pairs.PairRow.{PairRow}, declared.pairs.Quartiles.{Quartiles}}

-- the clocks agree by messages that were heard once in both
abbrev pub agree : Option Quartiles → Bool
agree None = false
agree (Some quartiles) = is_one_clock quartiles

-- two listeners are warned of if they heard nothing in common, or if enough messages tell that their clocks don't agree
abbrev pub warns : PairRow → Bool
warns row = (row.common == 0) || (are_enough row.by && not (agree row.quartiles))

-- two listeners heard messages in common, of which too few were heard once in both to tell whether their clocks agree
abbrev pub is_untold : PairRow → Bool
is_untold row = not (warns row) && not (agree row.quartiles)

-- ---- what a warning says of the second listener's clock

abbrev pub apart_words : ℕ → Quartiles → List ℕ
apart_words by quartiles =
    if is_steady quartiles then steady_words by quartiles.middle else unsteady_words by quartiles

abbrev pub known_warning : ℕ → Option Quartiles → List ℕ
known_warning by None = unknown_words
known_warning by (Some quartiles) = apart_words by quartiles ++ codes ": mdnswhy listeners FILE... says more"

unfoldable pub warning_words : PairRow → List ℕ
warning_words row = if row.common == 0 then nothing_words else known_warning row.by row.quartiles

-- ---- lines, among listeners of these names: of a name, each byte outside 0x21 to 0x7E is written as `\DDD` and a `\` as `\\`

abbrev pub name_text : List (List ℕ) → ℕ → List ℕ
name_text listener_names listener = string_text (listener_name_at listener_names listener)

unfoldable pub warning_line : List (List ℕ) → PairRow → List ℕ
warning_line listener_names row =
    name_text listener_names row.other ++ codes " beside " ++ name_text listener_names row.one ++ codes ": " ++ warning_words row ++ 10 ∷ []

-- the line of two listeners, if they are warned of
abbrev pub line_of_warned : List (List ℕ) → PairRow → List ℕ
line_of_warned listener_names row = if warns row then warning_line listener_names row else []

-- ---- one warning of all pairs of which too little is known

abbrev pub pairs_word : ℕ → List ℕ
pairs_word count = if count == 1 then codes "pair" else codes "pairs"

-- how many of how many pairs these are
unfoldable pub counts_text : (untold all : ℕ) → List ℕ
counts_text untold all = decimal untold ++ codes " of " ++ decimal all ++ 32 ∷ pairs_word all

abbrev pub untold_words : (untold all : ℕ) → List ℕ
untold_words untold all =
    counts_text untold all
    ++ codes " of captures: too few messages heard once in both to tell whether their clocks agree: mdnswhy listeners FILE... says more"

-- the same between two texts; nothing where there are none
unfoldable pub untold_text : (front : List ℕ) → List PairRow → (back : List ℕ) → List ℕ
untold_text front pairs back =
    if count_by is_untold pairs == 0 then [] else front ++ untold_words (count_by is_untold pairs) (length pairs) ++ back

-- the lines of all pairs that are warned of, and then the line of the others
abbrev pub warnings_text : List (List ℕ) → List PairRow → List ℕ
warnings_text listener_names pairs = flat_map (line_of_warned listener_names) pairs ++ untold_text [] pairs (10 ∷ [])
