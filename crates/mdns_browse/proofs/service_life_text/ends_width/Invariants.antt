use Rattle.std.proofs.Common.{◌≡◌, map, take}
use Rattle.mdns_browse.specs.{Columns.{widest}, LifeText.{end_shown}, ServiceLifeText.{ServiceLife, service_life_lent}}
use Rattle.mdns_browse.proofs.service_life_text.ends_width.Given as goal

abbrev pub invariant-loop-service : goal.invariant-loop-service
invariant-loop-service l =
    l.width ≡ widest (map (λ (service : ServiceLife). end_shown l.end_of_captures.nanos service.life)
    (map service_life_lent (take l.service-index l.services)))
