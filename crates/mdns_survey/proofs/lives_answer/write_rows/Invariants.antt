use Rattle.std.proofs.Common.{◌≡◌, IsTrue, length, string_bytes}
use Rattle.mdns_browse.specs.LifeText.{lives_text}
use Rattle.mdns_survey.proofs.{KeptLemmas.{kept_text}, RowsLemmas.{RowsSoFar}}
use Rattle.mdns_survey.proofs.lives_answer.write_rows.Given as goal

-- the lines of the rows so far were written, or wait
abbrev pub invariant-loop-row : goal.invariant-loop-row
invariant-loop-row g l = record {
  far : RowsSoFar (string_bytes l.fn.head) (kept_text l.fn.lines.about.now (lives_text l.fn.lines.form l.fn.lines.width l.fn.lines.end_of_captures.nanos)) l.fn.rows l.walk
      (g.W.Sink.written l.initial.out) (g.W.Sink.written l.out) (string_bytes l.text);
  unfailed : g.W.Sink.failures l.out ≡ g.W.Sink.failures l.initial.out;
  stays : IsTrue (g.W.Sink.steady l.initial.out) → IsTrue (g.W.Sink.steady l.out);
}

abbrev pub decreases-loop-row : goal.decreases-loop-row
decreases-loop-row g l = length l.walk
