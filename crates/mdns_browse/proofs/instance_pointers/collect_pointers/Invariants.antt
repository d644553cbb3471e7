use Rattle.std.proofs.Common.{◌≡◌, ◌++◌, map}
use Rattle.std.specs.List.{filter}
use Rattle.mdns_cache.specs.LentRecords.{last_lent}
use Rattle.mdns_browse.specs.{Given.{given_lent}, Services.{given_of, gives_instance, lasts_in}}
use Rattle.mdns_browse.proofs.instance_pointers.collect_pointers.Given as goal

abbrev pub invariant-loop-row : goal.invariant-loop-row
invariant-loop-row l =
    (map last_lent l.rows.items ++ lasts_in l.row-iterator ≡ lasts_in l.fn.walk)
    × (map given_lent l.given.items ++ filter gives_instance (map given_of l.row-iterator) ≡ filter gives_instance (map given_of l.fn.walk))
