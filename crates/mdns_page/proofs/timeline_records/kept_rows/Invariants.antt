use Rattle.std.proofs.Common.{◌≡◌, ◌++◌, length, map}
use Rattle.std.specs.{List.{filter}, List.Sorted.{IsStrictlySortedBy}}
use Rattle.mdns_message.specs.Resource.{key_cmp}
use Rattle.mdns_cache.specs.{Live.{key_of_last}, LentRecords.{last_lent}}
use Rattle.mdns_lives.specs.LentLives.{row_lent}
use Rattle.mdns_page.specs.TimelineRecords.{is_kept}
use Rattle.mdns_page.proofs.timeline_records.kept_rows.Given as goal

-- those of the rows so far were kept
abbrev pub invariant-loop-record : goal.invariant-loop-record
invariant-loop-record l =
    IsStrictlySortedBy key_cmp (map key_of_last (map last_lent l.heard))
    → filter (λ row. is_kept l.about (map last_lent l.heard) row.0) l.fn.rows
    ≡ map row_lent l.kept.items ++ filter (λ row. is_kept l.about (map last_lent l.heard) row.0) l.walk

abbrev pub decreases-loop-record : goal.decreases-loop-record
decreases-loop-record l = length l.walk
