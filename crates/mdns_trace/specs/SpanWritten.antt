-- What is written of the time span of a capture.
use Rattle.std.specs.Prelude.{◌≡◌, ℕ, List, Option, Some, IfSome}
use Rattle.mdns_browse.specs.declared.report.Form.{Form}
use Rattle.mdns_capture.specs.{declared.stream.Sink.{Ghosts}, Output.{AppendsPrefix}}
use Rattle.mdns_survey.specs.declared.summary.Summary.{Summary}
use Rattle.mdns_trace.specs.declared.{span_line.CaptureSpans.{CaptureSpans}, trace.TraceFault.{TraceFault}}
use Rattle.mdns_trace.specs.{declared.trace.TraceFault.TheVariants.{Listen, Write}, Entry.{span_entry}, EntryText.{entry_text}}
use Rattle.mdns_trace.specs.SpanLine.{IsSpanned}

-- the text is the line of a capture with that summary, in that form
pub record SpansCapture (form : Form) (file bytes : List ℕ) (summary : Summary) (text : List ℕ) : Type 0 where
  pub spanned : CaptureSpans
  pub is : IsSpanned (Some bytes) spanned
  pub counts : summary ≡ spanned.reading.summary
  pub line : text ≡ entry_text form file (span_entry spanned)

-- WHAT WENT OUT BEFORE A FAULT

-- nothing, and where the write failed a prefix of the line, which isn't the whole
abbrev pub LeavesSpan : {W : Type 0} → Ghosts W → Form → List ℕ → Option (List ℕ) → W → W → TraceFault → Type 0
LeavesSpan sink form file left old new (Listen fault) = new ≡ old
LeavesSpan sink form file left old new Write =
    IfSome left (λ bytes. (summary : Summary) × ((text : List ℕ)
    × SpansCapture form file bytes summary text × AppendsPrefix (sink.written old) (sink.written new) text))
