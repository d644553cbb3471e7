use Rattle.std.proofs.Common.{drop, map}
use Rattle.std.specs.List.{flat_map}
use Rattle.mdns_cache.specs.LentRecords.{last_lent}
use Rattle.mdns_browse.specs.{Given.{given_lent}, Services.{AreAscending}, Sheet.{instance_pieces}}
use Rattle.mdns_browse.proofs.{InstanceLemmas.{shown_in}, ReachLemmas.{Reaches}}
use Rattle.mdns_browse.proofs.report_walk.walk_given.Given as goal

abbrev pub invariant-loop-row : goal.invariant-loop-row
invariant-loop-row g l =
    AreAscending (map last_lent l.rows)
    → Reaches g.S.Sheet.takes l.initial.sheet (flat_map instance_pieces (shown_in (map last_lent l.rows) (map given_lent l.given))) l.sheet
    (flat_map instance_pieces (shown_in (map last_lent l.rows) (map given_lent (drop l.row-index l.given))))
