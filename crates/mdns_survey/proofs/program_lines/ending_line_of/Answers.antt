use Rattle.std.proofs.{Common.{arith}, lemmas.Grind.{common_steps}}
use Rattle.mdns_survey.proofs.program_lines.ending_line_of.Goals as goal

pub returns : goal.returns
returns c = grind (arith, common_steps)
