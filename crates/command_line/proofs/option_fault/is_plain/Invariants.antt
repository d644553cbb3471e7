use Rattle.std.proofs.Common.{◌≡◌, length}
use Rattle.command_line.specs.OptionFault.{is_plain}
use Rattle.command_line.proofs.option_fault.is_plain.Given as goal

-- all bytes so far are printable ASCII
abbrev pub invariant-loop-byte : goal.invariant-loop-byte
invariant-loop-byte l = is_plain l.rest ≡ is_plain l.text

abbrev pub decreases-loop-byte : goal.decreases-loop-byte
decreases-loop-byte l = length l.rest
