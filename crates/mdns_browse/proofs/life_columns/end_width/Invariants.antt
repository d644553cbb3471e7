use Rattle.std.proofs.Common.{◌≡◌, map, take}
use Rattle.mdns_browse.specs.{LifeText.{end_shown}, Columns.{widest}}
use Rattle.mdns_browse.proofs.life_columns.end_width.Given as goal

abbrev pub invariant-loop-life : goal.invariant-loop-life
invariant-loop-life l = l.width ≡ widest (map (end_shown l.end_of_captures.nanos) (take l.life-index l.lives))
