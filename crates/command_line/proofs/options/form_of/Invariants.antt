use Rattle.std.proofs.Common.{length}
use Rattle.clap.specs.Words.{found_of, rows_of}
use Rattle.command_line.specs.Line.{HasOneForm, flags_of}
use Rattle.command_line.proofs.OptionLemmas.{HasFormAfter}
use Rattle.command_line.proofs.options.form_of.Given as goal

-- at most one flag so far asks for a form
abbrev pub invariant-loop-flag : goal.invariant-loop-flag
invariant-loop-flag l =
    let rows = rows_of (found_of l.given) in
    (form : _) → HasFormAfter l.found (flags_of l.rest) rows form → HasOneForm (flags_of l.flags) rows form

abbrev pub decreases-loop-flag : goal.decreases-loop-flag
decreases-loop-flag l = length l.rest
