use Rattle.std.proofs.Common.{◌≡◌, map, take}
use Rattle.mdns_browse.specs.{Given.{given_lent}, Columns.{widest}}
use Rattle.mdns_browse.proofs.InstanceColumnLemmas.{given_left}
use Rattle.mdns_browse.proofs.instance_columns.given_width.Given as goal

abbrev pub invariant-loop-row : goal.invariant-loop-row
invariant-loop-row l = l.width ≡ widest (map (given_left l.now.nanos) (map given_lent (take l.row-index l.given)))
