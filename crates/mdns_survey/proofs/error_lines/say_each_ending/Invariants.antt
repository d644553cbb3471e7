use Rattle.std.proofs.Common.{◌≡◌, IsTrue, map, length, string_bytes}
use Rattle.mdns_survey.specs.Said.{ending_lines}
use Rattle.mdns_survey.proofs.SaidLemmas.{SaidSoFar}
use Rattle.mdns_survey.proofs.error_lines.say_each_ending.Given as goal

-- the lines written so far and those that are left are all lines
abbrev pub invariant-loop-name : goal.invariant-loop-name
invariant-loop-name g l = record {
  far : SaidSoFar l.program (ending_lines l.program (map string_bytes l.initial.names) l.initial.summaries)
      (ending_lines l.program (map string_bytes l.names) l.summaries) (g.E.Sink.written l.initial.err) (g.E.Sink.written l.err);
  stays : IsTrue (g.E.Sink.steady l.initial.err) → IsTrue (g.E.Sink.steady l.err);
  unfailed : g.E.Sink.failures l.err ≡ g.E.Sink.failures l.initial.err;
}

abbrev pub decreases-loop-name : goal.decreases-loop-name
decreases-loop-name g l = length l.names
