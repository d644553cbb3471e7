use Rattle.std.proofs.Common.{◌≡◌, ◌++◌, map, length, string_bytes}
use Rattle.mdns_survey.specs.{ProgramLines.{check_lines_text}, Readings.{summaries_of}}
use Rattle.mdns_survey.proofs.answers.check_lines.Given as goal

-- the lines written so far and those that are left are all lines
abbrev pub invariant-loop-name : goal.invariant-loop-name
invariant-loop-name l = string_bytes l.text ++ check_lines_text (map string_bytes l.names) (summaries_of l.readings)
    ≡ check_lines_text (map string_bytes l.initial.names) (summaries_of l.initial.readings)

abbrev pub decreases-loop-name : goal.decreases-loop-name
decreases-loop-name l = length l.names
