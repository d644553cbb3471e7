use Rattle.std.proofs.Common.{◌≡◌, ◌++◌}
use Rattle.mdns_message.proofs.message.copies.Given as goal

-- the copies, and the hearings that are left
abbrev pub invariant-loop-hearing : goal.invariant-loop-hearing
invariant-loop-hearing l = l.heard.items ++ l.hearing-iterator ≡ l.reader
