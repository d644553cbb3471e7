-- Texts that were worked by hand.
use Rattle.std.proofs.Common.{◌≡◌, refl, ℕ, List, [], ◌∷◌, ◌++◌, Option, Some, None, codes}
use Rattle.std.specs.{Prelude.{ℤ, pos, negsuc}, Fmt.{digits}}
use Rattle.mdns_browse.specs.Columns.{padded, spaces, widest}
use Rattle.mdns_capture.specs.{Text.{moment_text}, declared.source_address.SourceAddress.TheVariants.{V4, V6}}
use Rattle.mdns_listeners.specs.declared.pairs.{PairRow.{PairRow}, Quartiles.{Quartiles}}
use Rattle.mdns_listeners.specs.Clock.{ahead_words, between_text, between_words, by_words, clock_words, one_clock_words, shift_words}
use Rattle.mdns_listeners.specs.{Clock.{steady_words}, Fields.{pair_fields}, Seconds.{signed_text}, RowSheet.{line_text}}
use Rattle.mdns_listeners.specs.{Table.{cells_from, table_text}, Values.{groups_text, source_text}, Warnings.{counts_text, untold_text}}

-- ---- signed durations

nothing : signed_text (pos 0) ≡ codes "0.000000000"
unfolding signed_text moment_text digits
nothing = refl

a_nanosecond_behind : signed_text (negsuc 0) ≡ codes "-0.000000001"
unfolding signed_text moment_text digits
a_nanosecond_behind = refl

a_tenth_ahead : signed_text (pos 100000000) ≡ codes "0.100000000"
unfolding signed_text moment_text digits
a_tenth_ahead = refl

more_than_a_tenth_behind : signed_text (negsuc 100000000) ≡ codes "-0.100000001"
unfolding signed_text moment_text digits
more_than_a_tenth_behind = refl

a_minute_ahead : signed_text (pos 60000000000) ≡ codes "60.000000000"
unfolding signed_text moment_text digits
a_minute_ahead = refl

-- ---- addresses

ipv4 : source_text (V4 (198 ∷ 51 ∷ 100 ∷ 11 ∷ [])) ≡ codes "198.51.100.11"
unfolding digits
ipv4 = refl

ipv6 : source_text (V6 (0x20 ∷ 0x01 ∷ 0x0d ∷ 0xb8 ∷ 0x00 ∷ 0x77 ∷ 0 ∷ 0 ∷ 0 ∷ 0 ∷ 0 ∷ 0 ∷ 0 ∷ 0 ∷ 0 ∷ 0x0b ∷ []))
    ≡ codes "2001:db8:77:0:0:0:0:b"
unfolding groups_text digits
ipv6 = refl

-- ---- clocks

abbrev row : ℕ → ℕ → Option Quartiles → PairRow
row common by quartiles = record { one = 0; other = 1; common = common; by = by; quartiles = quartiles }

abbrev words : ℕ → ℕ → Option Quartiles → List ℕ
words common by quartiles = clock_words (codes "b.pcap") (row common by quartiles)

abbrev three : ℤ → ℤ → ℤ → Option Quartiles
three ahead low high = Some (record { middle = ahead; low = low; high = high })

no_message : words 0 0 None ≡ codes "nothing in common: another link, or another filter?"
unfolding clock_words
no_message = refl

no_message_once : words 3 0 None ≡ codes "can't tell: no message came once in both"
unfolding clock_words
no_message_once = refl

same_clock : words 93 41 (three (negsuc 27999) (negsuc 50999) (pos 60000))
    ≡ codes "one clock: -0.000028000 s ahead, by 41 messages heard once in both"
unfolding clock_words one_clock_words steady_words by_words signed_text moment_text digits
same_clock = refl

-- the limit is still the same clock
at_the_limit : words 1 1 (three (pos 100000000) (negsuc 99999999) (pos 100000000))
    ≡ codes "one clock: 0.100000000 s ahead, by 1 message heard once in both"
unfolding clock_words one_clock_words steady_words by_words signed_text moment_text digits
at_the_limit = refl

past_the_limit : words 3 3 (three (pos 100000001) (pos 100000001) (pos 100000001))
    ≡ codes "0.100000001 s ahead, by 3 messages heard once in both: editcap -F nsecpcap -t -0.100000001 b.pcap shifted.pcap"
unfolding clock_words ahead_words steady_words by_words shift_words signed_text moment_text digits
past_the_limit = refl

behind : words 7 5 (three (negsuc 4000047999) (negsuc 4000099999) (negsuc 3999999999))
    ≡ codes "-4.000048000 s ahead, by 5 messages heard once in both: editcap -F nsecpcap -t 4.000048000 b.pcap shifted.pcap"
unfolding clock_words ahead_words steady_words by_words shift_words signed_text moment_text digits
behind = refl

drifting : words 7 5 (three (pos 0) (negsuc 199999999) (pos 50000000))
    ≡ codes "unsteady: -0.200000000 to 0.050000000 s ahead, by 5 messages heard once in both"
unfolding clock_words between_words between_text by_words signed_text moment_text digits
drifting = refl

-- a message that was sent again after two minutes: one heard it first, and the other then
one_message : words 7 1 (three (negsuc 119999999999) (negsuc 119999999999) (negsuc 119999999999))
    ≡ codes "too few to tell: -120.000000000 s ahead, by 1 message heard once in both"
unfolding clock_words between_words between_text by_words signed_text moment_text digits
one_message = refl

two_messages : words 2 2 (three (pos 0) (pos 0) (pos 100000001))
    ≡ codes "too few to tell: 0.000000000 to 0.100000001 s ahead, by 2 messages heard once in both"
unfolding clock_words between_words between_text by_words signed_text moment_text digits
two_messages = refl

-- ---- the warning of all pairs of which too few messages tell: the second and the third

told_of : List PairRow
told_of =
    row 0 0 None ∷ row 3 0 None ∷ row 7 2 (three (pos 0) (pos 0) (pos 100000001)) ∷ row 1 1 (three (pos 0) (pos 0) (pos 0))
    ∷ row 3 3 (three (pos 100000001) (pos 100000001) (pos 100000001)) ∷ []

two_of_five : untold_text [] told_of [] ≡ codes "2 of 5 pairs of captures: too few messages heard once in both to tell "
    ++ codes "whether their clocks agree: mdnswhy listeners FILE... says more"
unfolding told_of untold_text counts_text digits
two_of_five = refl

one_of_one : untold_text (60 ∷ []) (row 1 0 None ∷ []) (62 ∷ []) ≡ codes "<1 of 1 pair of captures: too few messages heard once in both "
    ++ codes "to tell whether their clocks agree: mdnswhy listeners FILE... says more>"
unfolding untold_text counts_text digits
one_of_one = refl

-- ---- lines

common_line : line_text (pair_fields (codes "west.pcap") (codes "east.pcap")
    (row 93 41 (three (negsuc 27999) (negsuc 50999) (pos 60000))))
    ≡ codes "west.pcap east.pcap common 93 ahead -0.000028000 from -0.000051000 to 0.000060000 by 41\n"
unfolding line_text signed_text moment_text digits
common_line = refl

uncommon_line : line_text (pair_fields (codes "a") (codes "b") (row 0 0 None)) ≡ codes "a b common 0 ahead - from - to - by 0\n"
unfolding line_text digits
uncommon_line = refl

-- ---- tables: a last cell isn't padded, and the columns are as wide as the widest cell

small_table : table_text
    ((codes "SENDER" ∷ codes "HEARD" ∷ codes "NAMES" ∷ []) ∷ (codes "10.0.0.21" ∷ codes "3" ∷ codes "a.local" ∷ [])
    ∷ (codes "10.0.0.3" ∷ codes "-" ∷ []) ∷ [])
    ≡ codes "SENDER     HEARD  NAMES\n10.0.0.21  3      a.local\n10.0.0.3   -\n"
unfolding table_text cells_from padded spaces widest
small_table = refl
