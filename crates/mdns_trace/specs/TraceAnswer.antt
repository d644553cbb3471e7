-- What a run over captures writes, and its exit status.
use Rattle.std.specs.{Prelude.{◌≡◌, ◌⊎◌, ℕ, IsTrue, List, [], ◌∷◌, codes}, Io.KnownBytes.{Appends}}
use Rattle.mdns_browse.specs.declared.about.Subject.{Subject}
use Rattle.mdns_capture.specs.{Output.{AppendsPrefix, Writing}, Stream.{OneMoreFailed}, declared.stream.Sink.{Ghosts as SinkGhosts}}
use Rattle.mdns_capture.specs.declared.stream.Source.{Ghosts as SourceGhosts}
use Rattle.mdns_survey.specs.{declared.summary.Summary.{Summary}, declared.survey.SurveyFault.{SurveyFault}, Answer.{status_of}}
use Rattle.mdns_survey.specs.{ProgramLines.{fault_line_text}, Said.{Says, ending_lines}}
use Rattle.mdns_survey.specs.declared.survey.SurveyFault.TheVariants as survey
use Rattle.mdns_trace.specs.declared.each_file.{FilesFault.{FilesFault}, FilesFault.TheVariants.{File, Memory}}
use Rattle.mdns_lives.specs.declared.window.Window.{Window}
use Rattle.mdns_trace.specs.declared.{inquiry.Trace.{Trace}, trace.TraceFault.TheVariants.{Listen, Write}}
use Rattle.mdns_trace.specs.{EachFile.{StopsAmong, WritesEach}, Inquiry.{StopsTrace, WritesTrace}, TraceCsv.{trace_header}}

-- the fault of a survey that has the same error line
abbrev pub survey_fault : FilesFault → SurveyFault
survey_fault (File index (Listen fault)) = survey.File index fault
survey_fault (File index Write) = survey.Write
survey_fault Memory = survey.Memory

-- the header of a trace was written, no write failed, and a steady writer stays steady
pub record WritesHeader {W : Type 0} (sink : SinkGhosts W) (trace : Trace) (old new : W) : Type 0 where
  pub written : Appends (sink.written old) (sink.written new) (trace_header trace)
  pub unfailed : sink.failures new ≡ sink.failures old
  pub stays : IsTrue (sink.steady old) → IsTrue (sink.steady new)

-- or a prefix of it, and a write failed, so the writer wasn't steady
pub record BreaksHeader {W : Type 0} (sink : SinkGhosts W) (trace : Trace) (old new : W) : Type 0 where
  pub prefix : AppendsPrefix (sink.written old) (sink.written new) (trace_header trace)
  pub failed : OneMoreFailed (sink.failures old) (sink.failures new)
  pub unsteady : IsTrue (sink.steady old) → ⊥

-- The header and the lines of all captures were written, an error line was written for each capture that isn't whole, and this is
-- the status.
pub record IsTraced {R W : Type 0} (source : SourceGhosts R) (sink : SinkGhosts W) (trace : Trace) (about : List Subject)
    (window : Window) (names : List (List ℕ)) (readers : List R) (old new : W) (err : Writing) (status : ℕ) : Type 0 where
  pub begun : W
  pub header : WritesHeader sink trace old begun
  pub summaries : List Summary
  pub written : WritesEach (WritesTrace source sink trace about window) begun names readers new summaries
  pub says : Says (codes "mdnswhy") (ending_lines (codes "mdnswhy") names summaries) err
  pub is_status : status ≡ status_of summaries

-- the header wasn't written whole, or it was, and then not all lines
abbrev pub StopsTraces : {R W : Type 0} → SourceGhosts R → SinkGhosts W → Trace → List Subject → Window → List (List ℕ) → List R → W → W
    → SurveyFault → Type 0
StopsTraces {W = W} source sink trace about window names readers old new fault =
    (BreaksHeader sink trace old new × (fault ≡ survey.Write))
    ⊎ ((begun : W) × (WritesHeader sink trace old begun × ((why : FilesFault) × ((fault ≡ survey_fault why)
    × StopsAmong (WritesTrace source sink trace about window) (StopsTrace source sink trace about window) names readers begun new why))))

-- The lines weren't all written for some fault, whose error line was written.
pub record IsTraceRefused {R W : Type 0} (source : SourceGhosts R) (sink : SinkGhosts W) (trace : Trace) (about : List Subject)
    (window : Window) (names : List (List ℕ)) (readers : List R) (old new : W) (err : Writing) : Type 0 where
  pub fault : SurveyFault
  pub stops : StopsTraces source sink trace about window names readers old new fault
  pub says : Says (codes "mdnswhy") (fault_line_text (codes "mdnswhy") names fault ∷ []) err
