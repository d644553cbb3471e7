-- What the captures of listeners tell, and the text that says it.
use Rattle.std.specs.Prelude.{◌≡◌, ℕ, suc, List, [], ◌∷◌, ◌++◌, All, Option, length, map, min, slice_index_or}
use Rattle.mdns_capture.specs.{declared.source_address.SourceAddress.{SourceAddress}, declared.moment.Moment.{Moment}, Frame.{FrameCarries}}
use Rattle.mdns_capture.specs.{Savefile.{PacketAt}, Source.{IsSourceOf}}
use Rattle.mdns_message.specs.declared.hearing.Hearing.{Hearing}
use Rattle.mdns_browse.specs.declared.report.Form.{Form}
use Rattle.mdns_survey.specs.declared.{request.AsOf.TheVariants.{Newest}, reading.Span.{Span}, summary.Summary.{Summary}}
use Rattle.mdns_survey.specs.{Listen.{packet_moments}, Outcomes.{AllRead, Outcome, heard, hearings_in}, Question.{Asked, asked_at_once}}
use Rattle.mdns_survey.specs.{Span.{span_of}, Surveys.{all_hearings}}
use Rattle.mdns_listeners.specs.{AllRows.{listeners_text}, NamedSender.{NamedSender}, Groups.{Grouped}}
use Rattle.mdns_listeners.specs.{HeardMessage.{AreHeardIn, HeardRow, Told, message_bytes}, SenderNames.{AreNames, HoldsNames, ListsNames}}
use Rattle.mdns_listeners.specs.{Numbers.{FileSpans, listener_rows, spans_of_listeners}, Pairs.{pair_rows}, Senders.{sender_rows}}
use Rattle.mdns_listeners.specs.declared.{heard_message.HeardAt.{HeardAt}, listeners.HeardByListeners.{HeardByListeners}}
use Rattle.mdns_listeners.specs.declared.{listeners.MessageCollector.{MessageCollector}, senders.SenderRow.{SenderRow}}

-- ---- which messages were told

-- Where a packet that comes to that outcome told a hearing, the listener heard its message, at its moment: the address from which
-- the frame was sent, and the payload that the frame carries.
abbrev pub Tells : ℕ → PacketAt → Outcome → List Told → Type 0
Tells listener packet (heard (hearing ∷ hearings)) told =
    (source : SourceAddress) × ((payload : List ℕ) × IsSourceOf packet.frame source × FrameCarries packet.frame payload
    × (told ≡ record {
      message = message_bytes source payload;
      at = record { listener = listener; moment = packet.moment };
    } ∷ []))
Tells listener packet outcome told = told ≡ []

-- the listener heard these messages of packets that come to these outcomes, packet after packet
abbrev pub TellAll : ℕ → List PacketAt → List Outcome → List Told → Type 0
TellAll listener [] [] told = told ≡ []
TellAll listener (packet ∷ packets) (outcome ∷ outcomes) told =
    (one : List Told) × ((rest : List Told) × (told ≡ one ++ rest)
    × Tells listener packet outcome one × TellAll listener packets outcomes rest)
TellAll listener packets outcomes told = ⊥

-- the listener of the file at a place, by the list of all files' listeners
abbrev pub listener_at : List ℕ → ℕ → ℕ
listener_at of place = slice_index_or of place 0

-- the listeners heard these messages of captures, of which the first is the file at that place
abbrev pub CapturesTell : List ℕ → ℕ → List (List PacketAt) → List (List Outcome) → List Told → Type 0
CapturesTell of place [] [] told = told ≡ []
CapturesTell of place (packets ∷ more) (outcomes ∷ others) told =
    (one : List Told) × ((rest : List Told) × (told ≡ one ++ rest)
    × TellAll (listener_at of place) packets outcomes one × CapturesTell of (suc place) more others rest)
CapturesTell of place packets outcomes told = ⊥

-- ---- the text

-- the time span of each capture's packets
abbrev pub capture_spans : List (List PacketAt) → List (Option Span)
capture_spans packets = map (λ ps. span_of (packet_moments ps)) packets

-- These are the rows, each with the names that its sender goes by.
pub record AreNamed (hearings : List Hearing) (rows : List SenderRow) (senders : List NamedSender) : Type 0 where
  pub are_rows : map (λ sender. sender.row) senders ≡ rows
  pub names : All (λ sender. AreNames sender.row.source hearings sender.names) senders

-- The text says, in that form, of listeners whose files have these time spans, which of them heard which of these messages, how
-- their clocks agree, and what each heard of each sender, which goes by the names that these hearings tell.
pub record SaysFacts (names : List (List ℕ)) (form : Form) (rows : List HeardRow) (spans : List FileSpans) (hearings : List Hearing)
    (text : List ℕ) : Type 0 where
  pub senders : List NamedSender
  pub are_named : AreNamed hearings (sender_rows rows spans) senders
  pub lines : text ≡ listeners_text form (record {
    listener_names = names;
    listeners = listener_rows rows spans;
    pairs = pair_rows rows spans;
    senders = senders;
  })

-- The rows are those of the messages that captures of these listeners, with these packets, which came to these outcomes, tell.
pub record AreRowsOf (of : List ℕ) (packets : List (List PacketAt)) (outcomes : List (List Outcome)) (rows : List HeardRow)
    : Type 0 where
  pub told : List Told
  pub tell : CapturesTell of 0 packets outcomes told
  pub are_heard : AreHeardIn told rows

-- the time spans of listeners whose captures have these packets
abbrev pub spans_by : Grouped → List (List PacketAt) → List FileSpans
spans_by groups packets = spans_of_listeners (length groups.names) groups.by_file (capture_spans packets)

-- The text says this of captures that have these packets, which came to these outcomes.
pub record IsTextOf (groups : Grouped) (form : Form) (packets : List (List PacketAt)) (outcomes : List (List Outcome))
    (text : List ℕ) : Type 0 where
  pub rows : List HeardRow
  pub are_rows : AreRowsOf groups.by_file packets outcomes rows
  pub says : SaysFacts groups.names form rows (spans_by groups packets) (all_hearings outcomes) text

-- The text says this of captures.
pub record AreListeners (groups : Grouped) (form : Form) (captures : List (List ℕ)) (summaries : List Summary) (text : List ℕ)
    : Type 0 where
  pub packets : List (List PacketAt)
  pub outcomes : List (List Outcome)
  pub read : AllRead captures packets outcomes summaries
  pub says : IsTextOf groups form packets outcomes text

-- what the listeners heard is asked, of all captures
abbrev pub asked_listeners : Grouped → Form → Asked
asked_listeners groups form = asked_at_once (λ captures. AreListeners groups form captures) Newest []

-- ---- while captures are read

-- when the listener whose capture a collector reads hears a packet of that moment
abbrev pub heard_at : MessageCollector → Moment → HeardAt
heard_at collector moment = record { listener = listener_at collector.by_file.items collector.place; moment = moment }

-- A collector took these packets, with their outcomes, of the capture that it reads.
pub record Gathers (begun now : MessageCollector) (packets : List PacketAt) (outcomes : List Outcome) : Type 0 where
  pub by_file : now.by_file.items ≡ begun.by_file.items
  pub place : now.place ≡ begun.place
  pub told : List Told
  pub tell : TellAll (listener_at begun.by_file.items begun.place) packets outcomes told
  pub messages : now.messages.told ≡ begun.messages.told ++ told
  pub names : (earlier : List Hearing) → HoldsNames begun.messages.names earlier
      → HoldsNames now.messages.names (earlier ++ hearings_in outcomes)

-- A collector that had read nothing took these captures, whose listeners these are.
pub record Gathered (of : List ℕ) (now : MessageCollector) (packets : List (List PacketAt)) (outcomes : List (List Outcome)) : Type 0 where
  pub listeners : now.by_file.items ≡ of
  pub place : now.place ≡ min (length packets) (length of)
  pub tell : CapturesTell of 0 packets outcomes now.messages.told
  pub names : HoldsNames now.messages.names (all_hearings outcomes)

-- the same from a first state to a second
abbrev pub GathersAll : MessageCollector → MessageCollector → List (List PacketAt) → List (List Outcome) → Type 0
GathersAll begun now packets outcomes = Gathered begun.by_file.items now packets outcomes

-- A collector noted one more time at which a message was heard, and nothing else.
pub record NotesTime (old new : MessageCollector) : Type 0 where
  pub by_file : new.by_file ≡ old.by_file
  pub place : new.place ≡ old.place
  pub one : Told
  pub told : new.messages.told ≡ old.messages.told ++ one ∷ []
  pub names : new.messages.names ≡ old.messages.names

-- ---- once they were read

-- What the listeners of captures heard that have these packets, which came to these outcomes.
pub record IsHeardBy (groups : Grouped) (packets : List (List PacketAt)) (outcomes : List (List Outcome)) (heard_by : HeardByListeners)
    : Type 0 where
  pub are_rows : AreRowsOf groups.by_file packets outcomes heard_by.messages.items
  pub spans : heard_by.spans.items ≡ spans_by groups packets
  pub names : ListsNames heard_by.names (all_hearings outcomes)
