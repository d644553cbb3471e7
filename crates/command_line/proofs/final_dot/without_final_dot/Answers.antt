use Rattle.std.proofs.Common.{arith}
use Rattle.command_line.proofs.FinalDotLemmas.{before-dot}
use Rattle.command_line.proofs.final_dot.without_final_dot.Goals as goal

pub returns-then-is_empty : goal.returns-then-is_empty
returns-then-is_empty c = grind (arith, before-dot)
