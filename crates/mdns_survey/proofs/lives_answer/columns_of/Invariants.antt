use Rattle.std.proofs.Common.{length}
use Rattle.mdns_survey.proofs.KeptLemmas.{LaidOut}
use Rattle.mdns_survey.proofs.lives_answer.columns_of.Given as goal

-- the layout is that of the rows so far
abbrev pub invariant-loop-scratch : goal.invariant-loop-scratch
invariant-loop-scratch l = LaidOut l.about l.end_of_captures.nanos l.fn.rows l.walk l.layout

abbrev pub decreases-loop-scratch : goal.decreases-loop-scratch
decreases-loop-scratch l = length l.walk
