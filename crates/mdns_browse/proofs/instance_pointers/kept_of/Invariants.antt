use Rattle.std.proofs.Common.{◌≡◌, ◌++◌, drop, map}
use Rattle.mdns_cache.specs.LentRecords.{last_lent}
use Rattle.mdns_browse.specs.{Given.{given_lent, kept_given}, Services.{AreAscending}}
use Rattle.mdns_browse.proofs.instance_pointers.kept_of.Given as goal

abbrev pub invariant-loop-row : goal.invariant-loop-row
invariant-loop-row l =
    AreAscending (map last_lent l.rows)
    → map given_lent l.kept.items ++ kept_given l.about (map last_lent l.rows) (map given_lent (drop l.row-index l.row-items))
    ≡ kept_given l.about (map last_lent l.rows) (map given_lent l.row-items)
