use Rattle.std.proofs.Common.{◌≤◌}
use Rattle.mdns_listeners.specs.declared.order.TheConstants.{FARTHEST}
use Rattle.mdns_listeners.proofs.order.count_alike.Given as goal

abbrev pub invariant-loop-other : goal.invariant-loop-other
invariant-loop-other l = l.alike ≤ FARTHEST
