-- What was written of a capture, and why its lines weren't all written.
use Rattle.std.specs.{Prelude.{◌≡◌, ◌≢◌, ℕ, IsTrue, List, Option, None, IfSome}, Io.KnownBytes.{Appends}}
use Rattle.mdns_capture.specs.{Capture.{IsOver}, Savefile.{header_fault}, Stream.{OneMoreFailed}}
use Rattle.mdns_capture.specs.declared.stream.{Sink.{Ghosts as SinkGhosts}, Source.{Ghosts as SourceGhosts}}
use Rattle.mdns_survey.specs.{declared.summary.Summary.{Summary}, Listen.{HasListenFault, IsNoReadFault}}
use Rattle.mdns_trace.specs.declared.trace.{TraceFault.{TraceFault}, TraceFault.TheVariants.{Listen, Write}}

-- The lines of a capture were written, exactly these where its bytes are known; its reading ended, and no write failed.
pub record WritesLines {R W : Type 0} (source : SourceGhosts R) (sink : SinkGhosts W)
    (AreLines : List ℕ → Summary → List ℕ → Type 0) (reader : R) (old new : W) (summary : Summary) : Type 0 where
  pub lines : IfSome (source.remaining reader) (λ bytes. (text : List ℕ)
      × AreLines bytes summary text × Appends (sink.written old) (sink.written new) text)
  pub over : IsOver summary.ending
  pub unfailed : sink.failures new ≡ sink.failures old
  pub stays : IsTrue (sink.steady old) → IsTrue (sink.steady new)

-- why a trace broke off over a reader with these bytes left, where they are known: a fault of `listen`, or a write that
-- failed, after the file header was read
abbrev pub HasTraceFault : Option (List ℕ) → TraceFault → Type 0
HasTraceFault left (Listen fault) = HasListenFault fault left
HasTraceFault left Write = IfSome left (λ bytes. header_fault bytes ≡ None)

-- the fault isn't a read that failed
abbrev pub IsNoTraceRead : TraceFault → Type 0
IsNoTraceRead (Listen fault) = IsNoReadFault fault
IsNoTraceRead Write = Unit {0}

-- how many writes had failed before, and have now: one more where that is the fault
abbrev pub CountsFailedWrite : Option ℕ → Option ℕ → TraceFault → Type 0
CountsFailedWrite old new (Listen fault) = new ≡ old
CountsFailedWrite old new Write = OneMoreFailed old new

-- The lines of a capture weren't all written. The fault is the capture's, blames no steady reader and no steady writer,
-- and leaves this; a write that failed is the last.
pub record Stops {R W : Type 0} (source : SourceGhosts R) (sink : SinkGhosts W) (Leaves : W → W → TraceFault → Type 0)
    (reader : R) (old new : W) (fault : TraceFault) : Type 0 where
  pub has_fault : HasTraceFault (source.remaining reader) fault
  pub spares_reader : IsTrue (source.steady reader) → IsNoTraceRead fault
  pub spares_writer : IsTrue (sink.steady old) → fault ≢ Write
  pub counts : CountsFailedWrite (sink.failures old) (sink.failures new) fault
  pub leaves : Leaves old new fault
