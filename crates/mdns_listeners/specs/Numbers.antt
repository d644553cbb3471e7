-- How much each listener heard, alone or not, and missed. Listeners are counted from 0.
use Rattle.std.specs.Prelude.{ℕ, ◌==◌, ◌&&◌, nat_le, not, if◌then◌else◌, Bool, List, map, Option, Some, None}
use Rattle.std.specs.List.{count_by, enumerate_from, filter_map, fold, list_any, range_with_len, sum_by, zip}
use Rattle.mdns_capture.specs.declared.moment.Moment.{Moment}
use Rattle.mdns_survey.specs.{declared.reading.Span.{Span}, Span.{joined_spans}}
use Rattle.mdns_listeners.specs.{HeardMessage.{HeardRow}, declared.heard_message.HeardAt.{HeardAt}, declared.numbers.ListenerRow.{ListenerRow}}

-- whether the listener heard it then
abbrev pub is_of : ℕ → HeardAt → Bool
is_of listener at = at.listener == listener

-- how often the listener heard the message
abbrev pub times_heard : ℕ → HeardRow → ℕ
times_heard listener row = count_by (is_of listener) row.times

-- whether the listener heard the message
abbrev pub has : ℕ → HeardRow → Bool
has listener row = list_any (is_of listener) row.times

-- whether a listener other than this one heard the message
abbrev pub has_another : ℕ → HeardRow → Bool
has_another listener row = list_any (λ at. not (is_of listener at)) row.times

-- how many messages the listener heard; one that it heard twice counts twice
abbrev pub heard : ℕ → List HeardRow → ℕ
heard listener rows = sum_by (times_heard listener) rows

-- whether the listener heard the message, and no other
abbrev pub is_alone : ℕ → HeardRow → Bool
is_alone listener row = has listener row && not (has_another listener row)

-- how many different messages the listener heard, and no other
abbrev pub alone : ℕ → List HeardRow → ℕ
alone listener rows = count_by (is_alone listener) rows

-- whether the moment is in the time span, ends included
abbrev pub is_within : Moment → Span → Bool
is_within moment span = nat_le span.first.nanos moment.nanos && nat_le moment.nanos span.last.nanos

-- whether one listened at the moment, whose files have these time spans
abbrev pub listened : List Span → Moment → Bool
listened spans moment = list_any (is_within moment) spans

-- whether the listener, whose files have these time spans, never heard the message, and listened when another did
abbrev pub is_missed : ℕ → List Span → HeardRow → Bool
is_missed listener spans row = not (has listener row) && list_any (λ at. listened spans at.moment) row.times

-- how many different messages the listener missed
abbrev pub missed : ℕ → List Span → List HeardRow → ℕ
missed listener spans rows = count_by (is_missed listener spans) rows

-- from the earliest beginning to the latest end of the time spans; none where there are none
abbrev pub whole_span : List Span → Option Span
whole_span spans = fold (λ whole span. joined_spans whole (Some span)) None spans

-- the time spans of a listener's files that have packets, and the span from the earliest beginning to the latest end of them
pub record FileSpans : Type 0 where
  pub spans : List Span
  pub whole : Option Span

-- the time span of a file, if it has one and is the listener's
abbrev pub span_of_file : ℕ → ℕ × Option Span → Option Span
span_of_file listener file = if file.0 == listener then file.1 else None

-- the time spans of a listener's files, given each file's listener and time span
abbrev pub file_spans : ℕ → List ℕ → List (Option Span) → List Span
file_spans listener of files = filter_map (span_of_file listener) (zip of files)

-- what a listener's files span
abbrev pub spans_of_listener : List ℕ → List (Option Span) → ℕ → FileSpans
spans_of_listener of files listener =
    record { spans = file_spans listener of files; whole = whole_span (file_spans listener of files) }

-- the same of so many listeners
abbrev pub spans_of_listeners : ℕ → List ℕ → List (Option Span) → List FileSpans
spans_of_listeners count of files = map (spans_of_listener of files) (range_with_len 0 count)

-- the row of one listener
abbrev pub listener_row : List HeardRow → ℕ × FileSpans → ListenerRow
listener_row rows listener = record {
  heard = heard listener.0 rows;
  alone = alone listener.0 rows;
  missed = missed listener.0 listener.1.spans rows;
  span = listener.1.whole;
}

-- the rows of all listeners, in order
abbrev pub listener_rows : List HeardRow → List FileSpans → List ListenerRow
listener_rows rows spans = map (listener_row rows) (enumerate_from 0 spans)
