use Rattle.std.proofs.Common.{◌≡◌, map, take}
use Rattle.std.specs.List.{filter, flat_map}
use Rattle.mdns_lives.specs.LentLives.{row_lent}
use Rattle.mdns_browse.specs.ServiceLifeText.{service_life_lent}
use Rattle.mdns_page.specs.{TimelineRecords.{has_row}, ServiceLives.{AreRecords, lives_given}}
use Rattle.mdns_page.specs.declared.timeline_records.TimelinePart.TheVariants.{Instances}
use Rattle.mdns_page.proofs.service_lives.service_lives.Given as goal

-- the lives of the records so far
abbrev pub invariant-loop-record : goal.invariant-loop-record
invariant-loop-record l =
    AreRecords (map row_lent l.kept)
    → map service_life_lent l.services.items
    ≡ flat_map (lives_given l.window (map row_lent l.kept))
    (filter (has_row Instances l.window) (map row_lent (take l.record-index l.kept)))
