-- The captures of a page.
use Rattle.std.specs.Prelude.{ℕ, ◌+◌, ◌==◌, ◌&&◌, Bool, true, if◌then◌else◌, nat_lt, Option, None, Some, option_map}
use Rattle.std.specs.{Prelude.{unwrap_or, List, [], ◌∷◌, ◌++◌, codes, length, slice_get}, Fmt.{decimal}, List.{find}}
use Rattle.mdns_capture.specs.{Text.{ending_text}, declared.savefile.Ending.{Ending}}
use Rattle.mdns_survey.specs.{ProgramLines.{is_whole}, declared.reading.Span.{Span}}
use Rattle.mdns_listeners.specs.{declared.numbers.ListenerRow.{ListenerRow}, declared.pairs.PairRow.{PairRow}, Clock.{clock_words}}
use Rattle.mdns_listeners.specs.Warnings.{warning_words, warns}
use Rattle.people_text.specs.{MomentText.{millis_text}, Shown.{shown}}
use Rattle.mdns_page.specs.{Axis.{drawn_if, place, place_end, short_text}, Counts.{commas, count_text}, Group.{axis_picture, group, item}}
use Rattle.mdns_page.specs.declared.{axis.Axis.{Axis}, axis.Dates.{Dates}, captures.CaptureFacts.{CaptureFacts}}
use Rattle.mdns_page.specs.declared.captures.{CaptureCounts.{CaptureCounts}, Comparison.{Comparison as LentComparison}}

-- what is known of a capture: the name of its listener, its counts, how it ends, and the span of its packets, if there are any
pub record Facts : Type 0 where
  pub name : List ℕ
  pub counts : CaptureCounts
  pub ending : Ending
  pub span : Option Span

abbrev pub facts_lent : CaptureFacts → Facts
facts_lent capture =
    record { name = capture.name.now; counts = capture.counts; ending = capture.ending; span = capture.span }

-- how captures compare: what each heard alone and missed, and what each two that recorded together have in common; nothing where
-- they aren't compared
pub record Comparison : Type 0 where
  pub listeners : List ListenerRow
  pub pairs : List PairRow

abbrev pub comparison_lent : LentComparison → Comparison
comparison_lent comparison = record { listeners = comparison.listeners.now; pairs = comparison.pairs.now }

-- the name of the capture with an index; empty if there is no such capture
abbrev pub name_at : List Facts → ℕ → List ℕ
name_at captures index = unwrap_or (option_map (λ (capture : Facts). capture.name) (slice_get captures index)) []

-- a text for each capture, in order, by its index, from this one on
abbrev pub each_from : {C : Type 0} → (ℕ → C → List ℕ) → (index : ℕ) → List C → List ℕ
each_from text index [] = []
each_from text index (capture ∷ captures) = text index capture ++ each_from text (index + 1) captures

-- ---- the parts of a row

-- the number of a capture, from 1 on: a circled digit where there are few captures
unfoldable pub number_text : Bool → ℕ → List ℕ
number_text many index = if many then decimal (index + 1) else codes "&#" ++ decimal (9312 + index) ++ codes ";"

-- how many packets and hearings a capture has
unfoldable pub sizes_text : CaptureCounts → List ℕ
sizes_text counts =
    codes "<small>" ++ count_text counts.packets (codes "packet") (codes "packets") ++ codes ", "
    ++ count_text counts.hearings (codes "hearing") (codes "hearings") ++ codes "</small>"

-- a stroke for the time that a capture recorded, and what it says: that time to the millisecond
unfoldable pub recorded_bar : Axis → Span → List ℕ
recorded_bar axis span =
    codes "<path class=\"r\" d=\"M" ++ decimal (place axis span.first.nanos) ++ codes " 19H"
    ++ decimal (place_end axis span.first.nanos span.last.nanos) ++ codes "\">" ++ codes "<title>recorded "
    ++ millis_text span.first.nanos ++ codes " to " ++ millis_text span.last.nanos ++ codes "</title></path>"

unfoldable pub recorded_picture : Axis → Option Span → List ℕ
recorded_picture axis span =
    codes "<svg class=\"c\" viewBox=\"0 0 1000 24\" preserveAspectRatio=\"none\" aria-hidden=\"true\"><use href=\"#v\"/>"
    ++ drawn_if axis (recorded_bar axis) span ++ codes "</svg>"

-- when a capture recorded, to the second, also where that is after the end of the axis
abbrev pub recorded_words : Dates → Option Span → List ℕ
recorded_words dates None = codes "no packets"
recorded_words dates (Some span) = short_text dates span.first.nanos ++ codes " &#8211; " ++ short_text dates span.last.nanos

-- how many packets were heard, skipped and refused
unfoldable pub outcomes_text : CaptureCounts → List ℕ
outcomes_text counts =
    codes "<small>" ++ commas counts.messages ++ codes " heard, " ++ commas counts.skipped ++ codes " skipped, "
    ++ commas counts.refused ++ codes " refused</small>"

-- how many messages only this capture has, and how many it missed
unfoldable pub alone_text : ListenerRow → List ℕ
alone_text row =
    codes "<small>" ++ count_text row.alone (codes "message") (codes "messages") ++ codes " alone, " ++ commas row.missed
    ++ codes " missed</small>"

-- the pair is of an earlier capture that has messages in common with this one
abbrev pub is_shared_by : (index : ℕ) → PairRow → Bool
is_shared_by index pair = (pair.other == index) && nat_lt 0 pair.common

-- whether the clocks of two captures agree
abbrev pub agreement_words : PairRow → List ℕ
agreement_words pair = if warns pair then warning_words pair else clock_words [] pair

-- how a capture's clock compares with that of an earlier one
unfoldable pub clock_text : (List ℕ → List ℕ) → List Facts → PairRow → List ℕ
clock_text say captures pair =
    codes "<small>clock beside " ++ number_text (nat_lt 4 (length captures)) pair.one ++ codes "&#160;"
    ++ say (shown (name_at captures pair.one)) ++ codes ": " ++ agreement_words pair ++ codes "</small>"

-- how a capture compares: what it heard alone and missed, and its clock beside that of the first capture that shares a message with it
unfoldable pub compared_text : (List ℕ → List ℕ) → List Facts → Comparison → (index : ℕ) → List ℕ
compared_text say captures comparison index =
    unwrap_or (option_map alone_text (slice_get comparison.listeners index)) []
    ++ unwrap_or (option_map (clock_text say captures) (find (is_shared_by index) comparison.pairs)) []

-- ---- rows

-- one of the captures: its number, listener and sizes, when it recorded, how it ends, what its packets were, and how it compares; `say`
-- writes text of the network
unfoldable pub capture_text : (List ℕ → List ℕ) → Axis → List Facts → Comparison → (index : ℕ) → Facts → List ℕ
capture_text say axis captures comparison index capture =
    item (number_text (nat_lt 4 (length captures)) index ++ codes "&#160;" ++ say (shown capture.name) ++ sizes_text capture.counts)
    (recorded_picture axis capture.span)
    (codes "<p>" ++ recorded_words axis.dates capture.span
    ++ 32 ∷ (if is_whole capture.ending then codes "whole" else codes "<b class=\"warn\">" ++ ending_text capture.ending ++ codes "</b>")
    ++ codes "</p>" ++ outcomes_text capture.counts ++ compared_text say captures comparison index)

-- ---- the whole

-- the captures, and how many there are; where they are many, their numbers are plain ones
unfoldable pub captures_text : (List ℕ → List ℕ) → Axis → List Facts → Comparison → List ℕ
captures_text say axis captures comparison =
    codes "<h2 id=\"captures\">Captures</h2>\n<div class=\"g\">\n"
    ++ group true (codes "<bdi>" ++ count_text (length captures) (codes "capture") (codes "captures") ++ codes "</bdi>") axis_picture
    (codes "recorded, and how the file ends") (each_from (capture_text say axis captures comparison) 0 captures)
    ++ codes "</div>\n"
