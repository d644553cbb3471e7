-- Whether a listener heard a message once, and when. What listeners heard, without the bytes of the messages.
use Rattle.std.specs.{Prelude.{ℕ, Bool, true, false, List, [], ◌∷◌, Option, Some, None}, List.{enumerate_from, filter, filter_map}}
use Rattle.mdns_capture.specs.declared.moment.Moment.{Moment}
use Rattle.mdns_listeners.specs.{HeardMessage.{HeardRow}, Numbers.{is_of}, declared.heard_message.HeardAt.{HeardAt}, declared.marks.Seen.{Seen}}
use Rattle.mdns_listeners.specs.declared.marks.{Seen.TheVariants.{Never, Once, Often}, Mark.{Mark}}

-- how often these times are
abbrev pub seen_of : List HeardAt → Seen
seen_of [] = Never
seen_of (at ∷ []) = Once at.moment
seen_of (at ∷ more ∷ others) = Often

-- how often the listener heard the message
abbrev pub seen_by : ℕ → HeardRow → Seen
seen_by listener row = seen_of (filter (is_of listener) row.times)

-- the same after one more time
abbrev pub seen_more : Seen → Moment → Seen
seen_more Never moment = Once moment
seen_more (Once first) moment = Often
seen_more Often moment = Often

-- whether it was at all
abbrev pub is_seen : Seen → Bool
is_seen Never = false
is_seen (Once moment) = true
is_seen Often = true

-- the moment of the only time
abbrev pub only_of : Seen → Option Moment
only_of Never = None
only_of (Once moment) = Some moment
only_of Often = None

-- the mark of a message, if it was heard
abbrev pub mark_at : ℕ → Seen → Option Mark
mark_at position Never = None
mark_at position (Once moment) = Some (record { position = position; seen = Once moment })
mark_at position Often = Some (record { position = position; seen = Often })

-- the marks of the messages that the listener heard
abbrev pub marks_by : List HeardRow → ℕ → List Mark
marks_by rows listener = filter_map (λ row. mark_at row.0 (seen_by listener row.1)) (enumerate_from 0 rows)
