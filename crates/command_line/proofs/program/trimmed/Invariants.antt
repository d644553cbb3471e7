use Rattle.std.proofs.Common.{◌≡◌, length}
use Rattle.command_line.specs.Program.{trimmed}
use Rattle.command_line.proofs.program.trimmed.Given as goal

-- only line feeds were left out so far
abbrev pub invariant-loop-last : goal.invariant-loop-last
invariant-loop-last l = trimmed l.line ≡ trimmed l.text

abbrev pub decreases-loop-last : goal.decreases-loop-last
decreases-loop-last l = length l.line
