-- What is written of a capture, by the kind of trace.
use Rattle.std.specs.Prelude.{ℕ, List, Option}
use Rattle.mdns_browse.specs.declared.about.Subject.{Subject}
use Rattle.mdns_capture.specs.declared.stream.{Sink.{Ghosts as SinkGhosts}, Source.{Ghosts as SourceGhosts}}
use Rattle.mdns_message.specs.TextData.{string_text}
use Rattle.mdns_survey.specs.declared.summary.Summary.{Summary}
use Rattle.mdns_trace.specs.declared.{inquiry.Trace.{Trace}, inquiry.Trace.TheVariants.{Spans}, trace.TraceFault.{TraceFault}}
use Rattle.mdns_lives.specs.declared.window.Window.{Window}
use Rattle.mdns_trace.specs.{TraceFaults.{Stops, WritesLines}, SpanWritten.{LeavesSpan, SpansCapture}}
use Rattle.mdns_trace.specs.Trace.{AreLinesIn, LeavesLines, TracesCapture}

-- the text is what is written of a capture of these bytes, in a file of that name
abbrev pub Traces : Trace → List Subject → Window → List ℕ → List ℕ → Summary → List ℕ → Type 0
Traces (Spans form) about window file bytes summary text = SpansCapture form file bytes summary text
Traces trace about window file bytes summary text = TracesCapture (AreLinesIn trace about window file) bytes summary text

-- what went out before a fault
abbrev pub LeavesTrace : {W : Type 0} → SinkGhosts W → Trace → List Subject → Window → List ℕ → Option (List ℕ) → W → W → TraceFault
    → Type 0
LeavesTrace sink (Spans form) about window file left old new fault = LeavesSpan sink form file left old new fault
LeavesTrace sink trace about window file left old new fault = LeavesLines sink (AreLinesIn trace about window file) left old new fault

-- the lines of a capture in a file of that name were written, and weren't all written
abbrev pub WritesTrace : {R W : Type 0} → SourceGhosts R → SinkGhosts W → Trace → List Subject → Window → List ℕ → R → W → W → Summary
    → Type 0
WritesTrace source sink trace about window name = WritesLines source sink (Traces trace about window (string_text name))

abbrev pub StopsTrace : {R W : Type 0} → SourceGhosts R → SinkGhosts W → Trace → List Subject → Window → List ℕ → R → W → W → TraceFault
    → Type 0
StopsTrace source sink trace about window name reader =
    Stops source sink (LeavesTrace sink trace about window (string_text name) (source.remaining reader)) reader
