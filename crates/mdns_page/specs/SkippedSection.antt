-- The table of the packets that told nothing: how many, why, and what that means.
use Rattle.std.specs.Prelude.{ℕ, ◌+◌, ◌==◌, Bool, true, false, if◌then◌else◌, List, [], ◌∷◌, ◌++◌, codes, sum_by}
use Rattle.std.specs.List.{flat_map}
use Rattle.mdns_capture.specs.declared.cause.Cause.TheVariants.{DatagramCut, EtherType, EthernetCut, ExtensionHeader, Fragment}
use Rattle.mdns_capture.specs.declared.cause.Cause.TheVariants.{FragmentHeader, Group, HeaderCut, IpHeader, Port, Protocol}
use Rattle.mdns_capture.specs.declared.cause.Cause.TheVariants.{TotalLength, UdpLength, VlanTag}
use Rattle.mdns_survey.specs.declared.outcome.{SkipReason.{SkipReason}, SkipReason.TheVariants.{Frame, Ignored, Query}}
use Rattle.mdns_survey.specs.{declared.reading.Reading.{Reading}, Readings.{refused_in, skipped_in}, Reasons.{row_of}}
use Rattle.mdns_page.specs.Counts.{commas}

-- ---- the reasons

-- what reasons mean that need attention, with these: bytes weren't read, or a format is broken
unfoldable pub warnings : List (List ℕ × List SkipReason)
warnings =
    (codes "not read: split the capture into its VLANs", Frame VlanTag ∷ [])
    ∷ (codes "bytes are missing: record with tcpdump -s 0", Frame EthernetCut ∷ Frame HeaderCut ∷ Frame DatagramCut ∷ [])
    ∷ (codes "what it told is missing, unless another message told it", Frame Fragment ∷ Frame FragmentHeader ∷ [])
    ∷ (codes "a broken sender, or a damaged capture", Frame IpHeader ∷ Frame TotalLength ∷ Frame UdpLength ∷ [])
    ∷ (codes "a broken sender", Ignored ∷ []) ∷ []

-- the other reasons
unfoldable pub others : List SkipReason
others = Query ∷ Frame Port ∷ Frame Group ∷ Frame Protocol ∷ Frame EtherType ∷ Frame ExtensionHeader ∷ []

-- ---- the table

-- so many packets, why they told nothing, and what that means, in bold where it needs attention; nothing where there are none
unfoldable pub row_text : ℕ → (cause : List ℕ) → (bold : Bool) → (meaning : List ℕ) → List ℕ
row_text count cause bold meaning =
    if count == 0 then [] else codes "<tr><td>" ++ commas count ++ codes "</td><th scope=\"row\">" ++ cause ++ codes "</th><td>"
    ++ (if bold then codes "<b class=\"warn\">" ++ meaning ++ codes "</b>" else meaning) ++ codes "</td></tr>\n"

-- the row of the packets that were skipped for a reason
abbrev pub skipped_row : List Reading → (bold : Bool) → (meaning : List ℕ) → SkipReason → List ℕ
skipped_row readings bold meaning reason = row_text (skipped_in reason readings) (row_of reason).words bold meaning

-- a row for each reason of some packet, first for those that need attention, damaged messages among them
unfoldable pub table_text : List Reading → List ℕ
table_text readings =
    codes "<table>\n" ++ flat_map (λ warning. flat_map (skipped_row readings true warning.0) warning.1) warnings
    ++ row_text (refused_in readings) (codes "damaged message") true (codes "damaged: refused whole")
    ++ flat_map (skipped_row readings false (codes "normal")) others ++ codes "</table>\n"

-- the table, or that no packet of any capture was skipped or refused, under its heading
unfoldable pub skipped_text : List Reading → List ℕ
skipped_text readings =
    codes "<h2 id=\"nothing\">Skipped and refused packets</h2>\n"
    ++ (if sum_by (λ reading. reading.summary.tally.skipped + reading.summary.tally.refused) readings == 0
    then codes "<p class=\"note\">None.</p>\n" else table_text readings)
