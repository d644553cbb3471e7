use Rattle.std.proofs.Common.{[], drop}
use Rattle.mdns_browse.proofs.{HostLemmas.{names_left}, ReachLemmas.{Reaches}}
use Rattle.mdns_browse.proofs.host_forms.push_instances.Given as goal

abbrev pub invariant-loop-service : goal.invariant-loop-service
invariant-loop-service g l =
    Reaches g.W.WordSink.takes_words l.initial.to (names_left [] l.services) l.to (names_left l.before (drop l.service-index l.services))
