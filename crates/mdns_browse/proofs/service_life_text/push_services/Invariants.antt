use Rattle.std.proofs.Common.{◌≡◌, ◌++◌, map, take}
use Rattle.std.specs.{List.{flat_map}, String.{string_bytes}}
use Rattle.mdns_browse.specs.ServiceLifeText.{service_life_lent, service_text}
use Rattle.mdns_browse.proofs.service_life_text.push_services.Given as goal

abbrev pub invariant-loop-service : goal.invariant-loop-service
invariant-loop-service l =
    string_bytes l.to.text ≡ string_bytes l.initial.to.text
    ++ flat_map (service_text l.form l.width l.end_of_captures.nanos) (map service_life_lent (take l.service-index l.services))
