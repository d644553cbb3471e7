use Rattle.std.proofs.{Common.{arith}, lemmas.Result.{IfOk-weaker}}
use Rattle.mdns_survey.proofs.hearer.lives_of_chronicle.Goals as goal

pub returns : goal.returns
returns c = grind (arith, IfOk-weaker)
