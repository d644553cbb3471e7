use Rattle.std.proofs.Common.{◌≡◌, ◌++◌, List, length, map}
use Rattle.mdns_cache.specs.LentRecords.{last_lent}
use Rattle.mdns_join.specs.declared.latest.Latest.{Latest}
use Rattle.mdns_lives.specs.declared.life.Life.{Life}
use Rattle.mdns_page.proofs.timeline_records.heard_rows.Given as goal

-- the last hearings so far were collected, and the others are left
abbrev pub invariant-loop-record : goal.invariant-loop-record
invariant-loop-record l =
    map (λ (row : Latest × List Life). row.0) l.fn.rows
    ≡ map last_lent l.heard.items ++ map (λ (row : Latest × List Life). row.0) l.walk

abbrev pub decreases-loop-record : goal.decreases-loop-record
decreases-loop-record l = length l.walk
