use Rattle.std.proofs.Common.{◌≡◌, ◌++◌, map, take}
use Rattle.std.specs.{List.{flat_map}, String.{string_bytes}}
use Rattle.mdns_browse.specs.Hosts.{served_lent, service_row}
use Rattle.mdns_browse.proofs.host_forms.push_services.Given as goal

abbrev pub invariant-loop-service : goal.invariant-loop-service
invariant-loop-service l =
    string_bytes l.to ≡ string_bytes l.initial.to ++ flat_map service_row (map served_lent (take l.service-index l.services))
