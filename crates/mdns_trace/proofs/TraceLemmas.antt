-- One packet more of a capture is taken, and its lines are printed.
use Rattle.std.proofs.Common.{◌≡◌, ℕ, List, [], ◌∷◌, ◌++◌, Option, Some, None, IfSome, IsTrue, string_bytes, arith}
use Rattle.std.proofs.{Common.{subst, append_assoc, append-nil}, KnownBytes.{Appends-nil, Appends-trans}}
use Rattle.std.specs.Io.KnownBytes.{Appends}
use Rattle.mdns_capture.specs.{Capture.{IsOver}, Savefile.{PacketAt}, Stream.{OneMoreFailed}, declared.stream.Sink.{Ghosts as SinkGhosts}}
use Rattle.mdns_capture.specs.{declared.stream.Source.{Ghosts as SourceGhosts}, Output.{AppendsPrefix}}
use Rattle.mdns_survey.specs.declared.{listen.ListenFault.TheVariants.{Begin, Read, Memory}, reading.ReadingFault.{ReadingFault}}
use Rattle.mdns_survey.specs.declared.reading.{ReadingFault.TheVariants.{Listen as OfListen, Consumer as OfConsumer}, Reading.{Reading}}
use Rattle.mdns_survey.specs.Outcomes.{Outcome, AllCome}
use Rattle.mdns_survey.specs.Reading.{CaptureBegins, HasReadFault, IsNoCaptureRead, LeavesConsumer, ReadsCapture}
use Rattle.mdns_trace.specs.declared.trace.{Lines.{Lines}, TraceFault.{TraceFault}}
use Rattle.mdns_trace.specs.{declared.trace.TraceFault.TheVariants.{Listen, Write}, TraceFaults.{Stops, WritesLines}}
use Rattle.mdns_trace.specs.Trace.{AddsLines, AreAllLines, AreWanted, LeavesLines, LinesBroke, LinesTook, PrintsPart, TracesCapture}
use Rattle.mdns_trace.specs.Trace.{TracesFront, Wording, trace_fault}
use Rattle.std.proofs.lemmas.Bool.{false≢true}

-- ONE PACKET MORE

lines-more : (AreLines : Wording) (packets : List PacketAt) (outcomes : List Outcome) (text : List ℕ) (packet : PacketAt)
    (outcome : Outcome) (lines : List ℕ) → AreAllLines AreLines packets outcomes text → AreLines packet outcome lines
    → AreAllLines AreLines (packets ++ packet ∷ []) (outcomes ++ outcome ∷ []) (text ++ lines)
lines-more AreLines [] [] text packet outcome lines all are = grind (arith, append-nil)
lines-more AreLines [] (other ∷ outcomes) text packet outcome lines all are = absurd all
lines-more AreLines (first ∷ packets) [] text packet outcome lines all are = absurd all
lines-more AreLines (first ∷ packets) (other ∷ outcomes) text packet outcome lines all are =
    grind (arith, append_assoc, lines-more AreLines packets outcomes all.1.0 packet outcome lines all.1.3 are)

module _ {AreLines : Wording} where
  -- of what waited a part was written
  pub part-on : {packets : List PacketAt} {outcomes : List Outcome} {old now waiting : _} (next : Option (List ℕ)) (piece rest : List ℕ)
      → PrintsPart AreLines packets outcomes old now waiting → waiting ≡ piece ++ rest → Appends now next piece
      → PrintsPart AreLines packets outcomes old next rest
  part-on next piece rest prints parts written = grind (arith, append_assoc, Appends-trans)

  -- a packet's lines were added to those that wait
  pub part-more : {packets : List PacketAt} {outcomes : List Outcome} {old now waiting : _} (packet : PacketAt) (outcome : Outcome)
      (more : List ℕ) → PrintsPart AreLines packets outcomes old now waiting → AddsLines (AreLines packet outcome) waiting more
      → PrintsPart AreLines (packets ++ packet ∷ []) (outcomes ++ outcome ∷ []) old now more
  part-more {packets} {outcomes} {waiting = waiting} packet outcome more prints adds =
      grind (arith, append_assoc, lines-more AreLines packets outcomes (prints.printed ++ waiting) packet outcome adds.0 prints.lines adds.1)

  traces-front : {packets : List PacketAt} {outcomes : List Outcome} {old new : Option (List ℕ)} (left : Option (List ℕ))
      (rest : List ℕ) → AllCome packets outcomes → IfSome left (λ bytes. CaptureBegins bytes packets)
      → PrintsPart AreLines packets outcomes old new rest → IfSome left (λ bytes. TracesFront AreLines bytes old new)
  traces-front None rest come begins prints = tt
  traces-front (Some bytes) rest come begins prints = grind arith

-- THE ENDS

-- before the first packet
nothing-taken : {W : Type 0} (sink : SinkGhosts W) (old : Lines W) → string_bytes old.text ≡ [] → LinesTook sink old old [] []
nothing-taken sink old empty = grind (arith, Appends-nil)

pub lines-stop : {R W : Type 0} (source : SourceGhosts R) (sink : SinkGhosts W) (reader : R) (old new : Lines W)
    (fault : ReadingFault TraceFault) → string_bytes old.text ≡ [] → HasReadFault (source.remaining reader) fault
    → (IsTrue (source.steady reader) → IsNoCaptureRead fault)
    → LeavesConsumer (LinesTook sink) (LinesBroke sink) (source.remaining reader) old new fault
    → (new.out.ghost_name ≡ old.out.ghost_name) × Stops source sink
    (LeavesLines sink (AreWanted old.wanted) (source.remaining reader)) reader old.out.now new.out.now (trace_fault fault)
lines-stop {R} {W} source sink reader old new (OfListen (Begin fault)) empty has spares leaves = grind arith
lines-stop source sink reader old new (OfListen Read) empty has spares leaves = grind (arith, nothing-taken sink old empty, traces-front)
lines-stop source sink reader old new (OfListen Memory) empty has spares leaves = grind (arith, nothing-taken sink old empty, traces-front)
lines-stop source sink reader old new (OfConsumer (Listen (Begin fault))) empty has spares leaves =
    absurd (leaves.took old (nothing-taken sink old empty)).fails
lines-stop source sink reader old new (OfConsumer (Listen Read)) empty has spares leaves = grind (arith, nothing-taken sink old empty)
lines-stop source sink reader old new (OfConsumer (Listen Memory)) empty has spares leaves =
    grind (arith, nothing-taken sink old empty, traces-front)
lines-stop source sink reader old new (OfConsumer Write) empty has spares leaves = grind (arith, nothing-taken sink old empty, traces-front)

lines-whole : {W : Type 0} (sink : SinkGhosts W) (left : Option (List ℕ)) (old new : Lines W) (next : W) (reading : Reading)
    → string_bytes old.text ≡ [] → ReadsCapture (LinesTook sink) left old new reading
    → Appends (sink.written new.out.now) (sink.written next) (string_bytes new.text)
    → IfSome left (λ bytes. (text : List ℕ)
    × TracesCapture (AreWanted old.wanted) bytes reading.summary text
    × Appends (sink.written old.out.now) (sink.written next) text)
lines-whole sink None old new next reading empty read written = tt
lines-whole sink (Some bytes) old new next reading empty read written =
    let prints = (read.took old (nothing-taken sink old empty)).prints in (
      prints.printed ++ string_bytes new.text,
      record {
        outcomes = read.outcomes;
        tells = record { packets = read.packets; reads = read.reads; come = read.come };
        counts = read.counts;
        lines = prints.lines;
      },
      Appends-trans _ _ _ _ _ prints.written written,
    )

-- what waited after a capture that was read whole was written
pub lines-written : {R W : Type 0} (source : SourceGhosts R) (sink : SinkGhosts W) (reader : R) (old new : Lines W) (next : W)
    (reading : Reading) → string_bytes old.text ≡ [] → ReadsCapture (LinesTook sink) (source.remaining reader) old new reading
    → IsOver reading.summary.ending → Appends (sink.written new.out.now) (sink.written next) (string_bytes new.text)
    → sink.failures next ≡ sink.failures new.out.now → (IsTrue (sink.steady new.out.now) → IsTrue (sink.steady next))
    → (new.out.ghost_name ≡ old.out.ghost_name) × WritesLines source sink
    (TracesCapture (AreWanted old.wanted)) reader old.out.now next reading.summary
lines-written source sink reader old new next reading empty read over written unfailed stays =
    grind (arith, nothing-taken sink old empty, lines-whole sink (source.remaining reader) old new next reading empty read written)

-- or a prefix of it
pub lines-cut : {R W : Type 0} (source : SourceGhosts R) (sink : SinkGhosts W) (reader : R) (old new : Lines W) (next : W)
    (reading : Reading) → string_bytes old.text ≡ [] → ReadsCapture (LinesTook sink) (source.remaining reader) old new reading
    → HasReadFault {F = TraceFault} (source.remaining reader) (OfConsumer Write)
    → AppendsPrefix (sink.written new.out.now) (sink.written next) (string_bytes new.text)
    → OneMoreFailed (sink.failures new.out.now) (sink.failures next) → (IsTrue (sink.steady new.out.now) → ⊥)
    → (new.out.ghost_name ≡ old.out.ghost_name) × Stops source sink
    (LeavesLines sink (AreWanted old.wanted) (source.remaining reader)) reader old.out.now next Write
lines-cut source sink reader old new next reading empty read sound prefix failed unsteady =
    let took = read.took old (nothing-taken sink old empty) in (
      took.same,
      record {
        has_fault = sound;
        spares_reader = λ steady. tt;
        spares_writer = λ steady write. unsteady (took.stays steady);
        counts = subst (λ (count : Option ℕ). OneMoreFailed count (sink.failures next)) took.unfailed failed;
        leaves = traces-front (source.remaining reader) prefix.1.0 read.come read.begins
            (part-on (sink.written next) prefix.0 prefix.1.0 took.prints prefix.1.1 prefix.1.2);
      },
    )

-- WHAT FUNCTIONS ARE PROVED BY

pub ruleset for_print_lines = (lines-cut, lines-stop, lines-written, false≢true)
