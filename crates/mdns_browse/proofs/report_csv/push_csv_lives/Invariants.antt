use Rattle.std.proofs.Common.{◌≡◌, ◌++◌, take}
use Rattle.std.specs.{List.{flat_map}, String.{string_bytes}}
use Rattle.mdns_browse.specs.LifeText.{life_csv}
use Rattle.mdns_browse.proofs.report_csv.push_csv_lives.Given as goal

abbrev pub invariant-loop-life : goal.invariant-loop-life
invariant-loop-life l =
    string_bytes l.text
    ≡ string_bytes l.initial.text ++ flat_map (life_csv l.end_of_captures.nanos l.resource) (take l.life-index l.lives)
