use Rattle.std.proofs.Common.{◌≡◌, ◌++◌, drop, map}
use Rattle.mdns_cache.specs.LentRecords.{last_lent}
use Rattle.mdns_browse.specs.{Given.{given_lent}, Services.{AreAscending}}
use Rattle.mdns_browse.proofs.InstanceLemmas.{only, shown_in}
use Rattle.mdns_browse.proofs.services.instances_of.Given as goal

abbrev pub invariant-loop-row : goal.invariant-loop-row
invariant-loop-row l =
    AreAscending (map last_lent l.rows)
    → l.instances.items ++ only (shown_in (map last_lent l.rows) (map given_lent (drop l.row-index l.given)))
    ≡ only (shown_in (map last_lent l.rows) (map given_lent l.given))
