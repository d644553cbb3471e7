-- From when to when the listener of a capture listened, and the line that says so.
use Rattle.std.specs.{Prelude.{◌≡◌, ℕ, List, [], ◌∷◌, ◌++◌, map, Option, Some, None, codes}, Fmt.{decimal}}
use Rattle.mdns_capture.specs.{declared.moment.Moment.{Moment}, Savefile.{PacketAt}, Text.{moment_text}}
use Rattle.mdns_message.specs.declared.hearing.Hearing.{Hearing}
use Rattle.mdns_survey.specs.{declared.reading.Span.{Span}, Outcomes.{Outcome, hearings_in}, Listen.{IsReadingOf}, Span.{span_of}}
use Rattle.mdns_trace.specs.declared.span_line.CaptureSpans.{CaptureSpans}

-- THE SPAN OF A CAPTURE

abbrev pub hearing_moments : List Hearing → List Moment
hearing_moments hearings = map (λ hearing. hearing.moment) hearings

-- The reading is that of a capture of these bytes, where they are known, and the span is that of all hearings of its
-- packets.
pub record IsSpanned (left : Option (List ℕ)) (spanned : CaptureSpans) : Type 0 where
  pub packets : List PacketAt
  pub outcomes : List Outcome
  pub is_reading : IsReadingOf left packets outcomes spanned.reading
  pub hearings : spanned.hearings ≡ span_of (hearing_moments (hearings_in outcomes))

-- THE LINE

-- the earliest and the latest moment, each `-` where there is none
abbrev pub bounds_text : Option Span → List ℕ
bounds_text None = codes "- -"
bounds_text (Some span) = moment_text span.first.nanos ++ 32 ∷ moment_text span.last.nanos

-- The line of a file of that name: the span of its packets, that of its hearings, the snapshot length that its header states,
-- and a line feed.
unfoldable pub span_line : List ℕ → CaptureSpans → List ℕ
span_line file spanned =
    file ++ codes " packets " ++ bounds_text spanned.reading.span ++ codes " hearings " ++ bounds_text spanned.hearings
    ++ codes " snap " ++ decimal spanned.reading.snap_length ++ 10 ∷ []
