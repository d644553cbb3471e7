use Rattle.std.proofs.Common.{length}
use Rattle.clap.specs.Words.{found_of, rows_of}
use Rattle.command_line.specs.Line.{HasSeconds, flags_of}
use Rattle.command_line.proofs.options.seconds_of.Given as goal

-- no flag so far takes seconds
abbrev pub invariant-loop-flag : goal.invariant-loop-flag
invariant-loop-flag l =
    let rows = rows_of (found_of l.given) in
    ((at : _) → HasSeconds (flags_of l.rest) rows at → HasSeconds (flags_of l.flags) rows at)
    × ((at : _) → HasSeconds (flags_of l.flags) rows at → HasSeconds (flags_of l.rest) rows at)

abbrev pub decreases-loop-flag : goal.decreases-loop-flag
decreases-loop-flag l = length l.rest
