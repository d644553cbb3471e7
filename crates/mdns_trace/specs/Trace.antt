-- The lines of a capture's hearings, or of its packets that told nothing, and how far they went out.
use Rattle.std.specs.Prelude.{◌≡◌, ℕ, Bool, true, false, IsTrue, List, [], ◌∷◌, ◌++◌, Option, IfSome, string_bytes}
use Rattle.std.specs.{List.{filter, flat_map}, Io.KnownBytes.{Appends}}
use Rattle.mdns_browse.specs.{About.{keeps_record}, declared.about.Subject.{Subject}, declared.report.Form.{Form}}
use Rattle.mdns_capture.specs.{declared.source_address.SourceAddress.{SourceAddress}, Savefile.{PacketAt}, Stream.{OneMoreFailed}}
use Rattle.mdns_capture.specs.{declared.stream.Sink.{Ghosts}, Source.{IsSourceOf}}
use Rattle.mdns_message.specs.declared.{fault.MessageFault.{MessageFault}, hearing.Hearing.{Hearing}}
use Rattle.mdns_survey.specs.declared.{listen.ListenFault.TheVariants.{Begin, Memory}, outcome.SkipReason.{SkipReason}}
use Rattle.mdns_survey.specs.declared.{reading.ReadingFault.{ReadingFault}, summary.Summary.{Summary}}
use Rattle.mdns_survey.specs.{Outcomes.{Outcome, skipped, refused, heard, AllCome, CaptureTells, Counts}, Reading.{CaptureBegins}}
use Rattle.mdns_survey.specs.Why.{IsRefusedFor, IsSkippedFor}
use Rattle.mdns_survey.specs.declared.reading.ReadingFault.TheVariants as reading
use Rattle.mdns_trace.specs.declared.{entry.Untold.{Untold}, inquiry.Trace.{Trace}, inquiry.Trace.TheVariants.{Hearings, Packets, Spans}}
use Rattle.mdns_trace.specs.declared.inquiry.TraceScope.{TraceScope}
use Rattle.mdns_trace.specs.declared.trace.{Lines.{Lines}, TraceFault.{TraceFault}, TraceFault.TheVariants.{Listen, Write}}
use Rattle.mdns_lives.specs.{declared.window.Window.{Window}, Window.{in_window}}
use Rattle.mdns_trace.specs.{Entry.{hearing_entry, packet_entry}, EntryText.{entry_text}}
use Rattle.mdns_trace.specs.declared.entry.Untold.TheVariants as untold

-- WHAT A CAPTURE'S LINES ARE

-- the lines of a hearing from that address
abbrev pub hearing_text : Form → List ℕ → SourceAddress → Hearing → List ℕ
hearing_text form file source hearing = entry_text form file (hearing_entry source hearing)

-- The text is the lines of the hearings of a packet that comes to that outcome, in order, each with the address from
-- which the frame was sent: of those hearings whose record is about one of the subjects, and of all where there are none.
abbrev pub AreHearingLines : List Subject → Form → List ℕ → PacketAt → Outcome → List ℕ → Type 0
AreHearingLines about form file packet skipped text = text ≡ []
AreHearingLines about form file packet refused text = text ≡ []
AreHearingLines about form file packet (heard hearings) text =
    (source : SourceAddress) × IsSourceOf packet.frame source
    × (text ≡ flat_map (hearing_text form file source) (filter (λ hearing. keeps_record about hearing.heard) hearings))

-- the line of a packet that told nothing
abbrev pub packet_text : Form → List ℕ → PacketAt → Untold → List ℕ
packet_text form file packet untold = entry_text form file (packet_entry packet untold)

-- The text is the line of a packet that told nothing, and says why; nothing where it has hearings. A response tells nothing
-- without a record that is listed: of class IN, and of a type that `RecordType` has.
abbrev pub IsPacketLine : Form → List ℕ → PacketAt → Outcome → List ℕ → Type 0
IsPacketLine form file packet skipped text =
    (why : SkipReason) × IsSkippedFor packet.frame why × (text ≡ packet_text form file packet (untold.Skipped why))
IsPacketLine form file packet refused text =
    (damage : MessageFault) × IsRefusedFor packet.frame damage × (text ≡ packet_text form file packet (untold.Refused damage))
IsPacketLine form file packet (heard []) text = text ≡ packet_text form file packet untold.Unlisted
IsPacketLine form file packet (heard (hearing ∷ hearings)) text = text ≡ []

-- The text is the lines of a packet that comes to that outcome. A span is of a whole file, so no packet has lines of it.
abbrev pub AreLinesOf : Trace → List Subject → List ℕ → PacketAt → Outcome → List ℕ → Type 0
AreLinesOf (Hearings form) about file packet outcome text = AreHearingLines about form file packet outcome text
AreLinesOf (Packets form) about file packet outcome text = IsPacketLine form file packet outcome text
AreLinesOf (Spans form) about file packet outcome text = text ≡ []

abbrev pub If : Bool → Type 0 → Type 0 → Type 0
If true Then Else = Then
If false Then Else = Else

-- the text is the lines of a packet that comes to that outcome, and nothing where its moment isn't in the window
abbrev pub AreLinesIn : Trace → List Subject → Window → List ℕ → PacketAt → Outcome → List ℕ → Type 0
AreLinesIn trace about window file packet outcome text =
    If (in_window window packet.moment) (AreLinesOf trace about file packet outcome text) (text ≡ [])

-- which text is the lines of a packet that comes to an outcome
abbrev pub Wording : Type 1
Wording = PacketAt → Outcome → List ℕ → Type 0

-- the text is the lines of packets that come to these outcomes, packet after packet
abbrev pub AreAllLines : Wording → List PacketAt → List Outcome → List ℕ → Type 0
AreAllLines AreLines [] [] text = text ≡ []
AreAllLines AreLines [] (outcome ∷ outcomes) text = ⊥
AreAllLines AreLines (packet ∷ packets) [] text = ⊥
AreAllLines AreLines (packet ∷ packets) (outcome ∷ outcomes) text =
    (lines : List ℕ) × ((rest : List ℕ) × (text ≡ lines ++ rest) × AreLines packet outcome lines × AreAllLines AreLines packets outcomes rest)

-- The bytes are a capture with the summary's ending, its tally counts what the packets come to, and the text is the
-- lines of all of them.
pub record TracesCapture (AreLines : Wording) (bytes : List ℕ) (summary : Summary) (text : List ℕ) : Type 0 where
  pub outcomes : List Outcome
  pub tells : CaptureTells bytes outcomes summary.ending
  pub counts : Counts outcomes summary.tally
  pub lines : AreAllLines AreLines tells.packets outcomes text

-- WHAT WENT OUT BEFORE A FAULT

-- Of the lines of these packets a prefix was written, and the rest wasn't.
pub record PrintsPart (AreLines : Wording) (packets : List PacketAt) (outcomes : List Outcome) (old new : Option (List ℕ))
    (rest : List ℕ) : Type 0 where
  pub printed : List ℕ
  pub lines : AreAllLines AreLines packets outcomes (printed ++ rest)
  pub written : Appends old new printed

-- The bytes begin as a capture, and of the lines of its first packets a prefix went out, which may be the whole.
pub record TracesFront (AreLines : Wording) (bytes : List ℕ) (old new : Option (List ℕ)) : Type 0 where
  pub packets : List PacketAt
  pub outcomes : List Outcome
  pub begins : CaptureBegins bytes packets
  pub come : AllCome packets outcomes
  pub rest : List ℕ
  pub prints : PrintsPart AreLines packets outcomes old new rest

-- what went out before a fault: nothing before the file header was read, and after it a prefix of the lines of the
-- packets that were read
abbrev pub LeavesLines : {W : Type 0} → Ghosts W → Wording → Option (List ℕ) → W → W → TraceFault → Type 0
LeavesLines sink AreLines left old new (Listen (Begin fault)) = new ≡ old
LeavesLines sink AreLines left old new fault =
    IfSome left (λ bytes. TracesFront AreLines bytes (sink.written old) (sink.written new))

-- WHILE A CAPTURE IS READ

-- such lines were added to a text
abbrev pub AddsLines : (List ℕ → Type 0) → List ℕ → List ℕ → Type 0
AddsLines AreLines old new = (lines : List ℕ) × AreLines lines × (new ≡ old ++ lines)

-- the lines of a packet that are wanted
abbrev pub AreWanted : TraceScope → Wording
AreWanted wanted = AreLinesIn wanted.trace wanted.about.now wanted.window wanted.file.now

-- A consumer took these packets: of their lines some went out, no write failed, and the others wait.
pub record LinesTook {W : Type 0} (sink : Ghosts W) (begun now : Lines W) (packets : List PacketAt) (outcomes : List Outcome)
    : Type 0 where
  pub wanted : now.wanted ≡ begun.wanted
  pub same : now.out.ghost_name ≡ begun.out.ghost_name
  pub prints : PrintsPart (AreWanted begun.wanted) packets outcomes (sink.written begun.out.now) (sink.written now.out.now)
      (string_bytes now.text)
  pub unfailed : sink.failures now.out.now ≡ sink.failures begun.out.now
  pub stays : IsTrue (sink.steady begun.out.now) → IsTrue (sink.steady now.out.now)

-- why a consumer of lines fails: no memory, where no write failed; or a write that failed, to a sink that isn't steady
abbrev pub FailsLines : {W : Type 0} → Ghosts W → W → W → TraceFault → Type 0
FailsLines sink old new (Listen Memory) = sink.failures new ≡ sink.failures old
FailsLines sink old new Write = (IsTrue (sink.steady old) → ⊥) × OneMoreFailed (sink.failures old) (sink.failures new)
FailsLines sink old new fault = ⊥

-- After these packets a consumer failed: of their lines a prefix went out.
pub record LinesBroke {W : Type 0} (sink : Ghosts W) (begun now : Lines W) (packets : List PacketAt) (outcomes : List Outcome)
    (fault : TraceFault) : Type 0 where
  pub same : now.out.ghost_name ≡ begun.out.ghost_name
  pub rest : List ℕ
  pub prints : PrintsPart (AreWanted begun.wanted) packets outcomes (sink.written begun.out.now) (sink.written now.out.now) rest
  pub fails : FailsLines sink begun.out.now now.out.now fault

-- the fault of a trace for that of its reading
abbrev pub trace_fault : ReadingFault TraceFault → TraceFault
trace_fault (reading.Listen fault) = Listen fault
trace_fault (reading.Consumer fault) = fault
