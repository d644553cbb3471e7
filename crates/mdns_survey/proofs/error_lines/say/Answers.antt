use Rattle.std.proofs.Common.{◌∷◌, []}
use Rattle.mdns_survey.specs.ProgramLines.{said_text}
use Rattle.mdns_survey.proofs.SaidLemmas.{prefix-after, prefix-of-more}
use Rattle.mdns_survey.proofs.error_lines.say.Goals as goal

pub returns-in-Err-write_all-clause-prefix : goal.returns-in-Err-write_all-clause-prefix
returns-in-Err-write_all-clause-prefix g c =
    prefix-after _ _ _ (said_text c.args.program.now c.args.line) (10 ∷ []) c.in-Ok.ensures.whole c.in-Err-write_all.ensures.prefix

pub returns-in-Err-clause-prefix : goal.returns-in-Err-clause-prefix
returns-in-Err-clause-prefix g c = prefix-of-more _ _ (said_text c.args.program.now c.args.line) (10 ∷ []) c.in-Err.ensures.prefix
