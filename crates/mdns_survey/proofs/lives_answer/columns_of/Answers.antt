use Rattle.std.proofs.Common.{arith, [], refl}
use Rattle.mdns_survey.proofs.KeptLemmas.{laid-more}
use Rattle.mdns_survey.proofs.lives_answer.columns_of.Goals as goal

pub loop-scratch-init : goal.loop-scratch-init
loop-scratch-init c = record { taken = []; parts = refl; fits = c.new-layout.ensures c.args.end_of_captures.nanos }

pub loop-scratch-preserved : goal.loop-scratch-preserved
loop-scratch-preserved c = grind (arith, laid-more)
