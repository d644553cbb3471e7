use Rattle.std.proofs.Common.{◌≡◌, length}
use Rattle.mdns_capture.specs.Frame.{leads_to_fragment}
use Rattle.mdns_capture.proofs.cause.leads_to_fragment.Given as goal

abbrev pub invariant-loop-rest : goal.invariant-loop-rest
invariant-loop-rest l = leads_to_fragment l.next 0 l.rest ≡ leads_to_fragment l.number 0 l.bytes

abbrev pub decreases-loop-rest : goal.decreases-loop-rest
decreases-loop-rest l = length l.rest
