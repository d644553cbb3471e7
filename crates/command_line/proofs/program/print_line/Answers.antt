use Rattle.std.proofs.Common.{arith, ◌∷◌, []}
use Rattle.mdns_survey.proofs.SaidLemmas.{prefix-of-more}
use Rattle.command_line.proofs.program.print_line.Goals as goal

pub returns-in-Err-clause-prefix : goal.returns-in-Err-clause-prefix
returns-in-Err-clause-prefix g c = grind (arith, prefix-of-more _ _ c.trimmed.result.now (10 ∷ []) c.in-Err.ensures.prefix)
