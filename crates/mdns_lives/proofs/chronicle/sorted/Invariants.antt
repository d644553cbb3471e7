use Rattle.std.proofs.Common.{◌≡◌}
use Rattle.mdns_lives.proofs.chronicle.sorted.Given as goal

abbrev pub invariant-loop-place : goal.invariant-loop-place
invariant-loop-place l = l.entries.items ≡ l.fn.entries.items
