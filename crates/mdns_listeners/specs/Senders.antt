-- What each listener heard of each sender.
use Rattle.std.specs.Prelude.{ℕ, ◌==◌, not, if◌then◌else◌, Bool, List, [], ◌∷◌, map, slice_index, slice_range, take}
use Rattle.std.specs.{Prelude.{Option, Some, None}, List.{enumerate_from, filter, flat_map, fold}, Str.{bytes_eq}}
use Rattle.mdns_capture.specs.declared.source_address.{SourceAddress.{SourceAddress}, SourceAddress.TheVariants.{V4, V6}}
use Rattle.mdns_survey.specs.{declared.reading.Span.{Span}, Span.{joined_spans, span_at}}
use Rattle.mdns_listeners.specs.{HeardMessage.{HeardRow}, Numbers.{FileSpans, heard, is_of, missed}, declared.heard_message.HeardAt.{HeardAt}}
use Rattle.mdns_listeners.specs.declared.senders.SenderRow.{SenderRow}

-- how many bytes at the front of a message name its sender: the version of IP and the address
abbrev pub sender_length : List ℕ → ℕ
sender_length message = if slice_index message 0 == 4 then 5 else 17

-- these bytes
abbrev pub sender_in : List ℕ → List ℕ
sender_in message = take (sender_length message) message

-- whether the message is from the sender
abbrev pub is_from : List ℕ → HeardRow → Bool
is_from sender row = bytes_eq (sender_in row.message) sender

-- the messages of the sender
abbrev pub rows_from : List ℕ → List HeardRow → List HeardRow
rows_from sender rows = filter (is_from sender) rows

-- the address of a sender
abbrev pub source_of : List ℕ → SourceAddress
source_of sender = if slice_index sender 0 == 4 then V4 (slice_range sender 1 5) else V6 (slice_range sender 1 17)

-- the different senders, in the order in which their first messages are
abbrev pub senders : List HeardRow → List (List ℕ)
senders [] = []
senders (row ∷ rows) = sender_in row.message ∷ filter (λ other. not (bytes_eq other (sender_in row.message))) (senders rows)

-- a time span that goes on to one more moment
abbrev pub with_time : Option Span → HeardAt → Option Span
with_time span at = joined_spans span (Some (span_at at.moment))

-- a time span that goes on to the times at which the listener heard a message
abbrev pub with_times : ℕ → Option Span → HeardRow → Option Span
with_times listener span row = fold with_time span (filter (is_of listener) row.times)

-- from the first to the last time that the listener heard one of the messages; none where it heard none
abbrev pub heard_span : ℕ → List HeardRow → Option Span
heard_span listener rows = fold (with_times listener) None rows

-- what the listener heard of a sender, whose messages these are
abbrev pub sender_row : List ℕ → List HeardRow → ℕ × FileSpans → SenderRow
sender_row sender own listener = record {
  source = source_of sender;
  listener = listener.0;
  heard = heard listener.0 own;
  missed = missed listener.0 listener.1.spans own;
  span = heard_span listener.0 own;
}

-- what each listener heard of a sender, whose messages these are
abbrev pub rows_of_sender : List FileSpans → List ℕ → List HeardRow → List SenderRow
rows_of_sender spans sender own = map (sender_row sender own) (enumerate_from 0 spans)

-- what each listener heard of each sender
abbrev pub sender_rows : List HeardRow → List FileSpans → List SenderRow
sender_rows rows spans = flat_map (λ sender. rows_of_sender spans sender (rows_from sender rows)) (senders rows)
