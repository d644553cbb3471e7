-- The lanes below the bars of a row: in which seconds each capture heard its record.
use Rattle.std.specs.Prelude.{ℕ, ◌+◌, ◌*◌, ◌==◌, ◌||◌, nat_lt, Bool, if◌then◌else◌, Option, None, Some, List, [], ◌∷◌, ◌++◌, codes}
use Rattle.std.specs.Fmt.{decimal}
use Rattle.mdns_lives.specs.{Window.{in_window}, declared.{life.RecordHearing.{RecordHearing}, seconds_heard.SecondHeard.{SecondHeard}}}
use Rattle.mdns_survey.specs.declared.reading.Span.{Span}
use Rattle.mdns_page.specs.{Axis.{drawn_if, place, place_end}, Captures.{Facts, each_from}, Picture.{path}, declared.axis.Axis.{Axis}}
use Rattle.mdns_page.specs.declared.picture.{StrokeSpan.{StrokeSpan}, Stroke.{Stroke}, Stroke.TheVariants.{Tick, GoodbyeTick}}

-- the height of a picture with so many lanes
abbrev pub height : ℕ → ℕ
height lanes = 24 + 8 * lanes

-- the height at which a capture's lane begins
abbrev pub lane_top : (lanes index : ℕ) → ℕ
lane_top lanes index = if nat_lt index lanes then 24 + 8 * index else 24

-- ---- ticks

-- the first or the last hearing of the second is a goodbye (RFC 6762, section 10.1)
abbrev pub is_goodbye : SecondHeard → Bool
is_goodbye second = (second.last.ttl == 0) || (second.first.ttl == 0)

-- its goodbye: the last hearing, if that is one
abbrev pub goodbye_of : SecondHeard → RecordHearing
goodbye_of second = if second.last.ttl == 0 then second.last else second.first

-- the place of a hearing, if it was in the window
abbrev pub point : Axis → RecordHearing → Option StrokeSpan
point axis heard =
    let at = place axis heard.moment.nanos in if in_window axis.window heard.moment then Some (record { begin = at; end = at }) else None

-- where the second has a stroke of this kind, if it has one: a tick at its first hearing, or a thick one at its goodbye
abbrev pub second_mark : Axis → Stroke → SecondHeard → Option StrokeSpan
second_mark axis (Tick top) second = if is_goodbye second then None else point axis second.first
second_mark axis (GoodbyeTick top) second = if is_goodbye second then point axis (goodbye_of second) else None
second_mark axis _ second = None

-- the ticks of a capture in its lane
unfoldable pub lane_text : Axis → (lanes index : ℕ) → List SecondHeard → List ℕ
lane_text axis lanes index seconds =
    let top = lane_top lanes index in
    path (second_mark axis) (Tick top) seconds ++ path (second_mark axis) (GoodbyeTick top) seconds

-- ---- the lines on which ticks stand

-- a line below a lane, for the time that its capture recorded
unfoldable pub base_line : Axis → (top : ℕ) → Span → List ℕ
base_line axis top span =
    77 ∷ decimal (place axis span.first.nanos) ++ 32 ∷ decimal (top + 5) ++ 72
    ∷ decimal (place_end axis span.first.nanos span.last.nanos)

-- that of a capture
abbrev pub base_text : Axis → (lanes index : ℕ) → Facts → List ℕ
base_text axis lanes index capture = drawn_if axis (base_line axis (lane_top lanes index)) capture.span

-- the lines of all lanes as one path; nothing where there are no lanes
unfoldable pub bases_text : Axis → (lanes : ℕ) → List Facts → List ℕ
bases_text axis lanes captures =
    if lanes == 0 then [] else codes "<path class=\"n\" d=\"" ++ each_from (base_text axis lanes) 0 captures ++ codes "\"/>"
