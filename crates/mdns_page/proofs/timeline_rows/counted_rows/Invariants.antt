use Rattle.std.proofs.Common.{◌≡◌, List, length, map, take}
use Rattle.std.specs.{List.{All, filter}, List.Sorted.{IsStrictlySortedBy}, Prelude.{nat_lt}}
use Rattle.mdns_message.specs.{declared.hearing.Hearing.{Hearing}, Resource.{key_cmp}}
use Rattle.mdns_cache.specs.Live.{key_of_last}
use Rattle.mdns_join.specs.declared.latest.Latest.{Latest}
use Rattle.mdns_lives.specs.{declared.life.Life.{Life}, Chronicle.{Chronicles}, LentLives.{row_lent}}
use Rattle.mdns_browse.specs.Services.{AreEach, body_of}
use Rattle.mdns_page.specs.{TimelineRows.{GivesSeconds, IsCounted}, TimelineRecords.{has_row}, Servers.{servers_of}}
use Rattle.mdns_page.specs.Timeline.{Row, counted_lent}
use Rattle.mdns_page.proofs.timeline_rows.counted_rows.Given as goal

-- the rows of the records so far
abbrev pub invariant-loop-record : goal.invariant-loop-record
invariant-loop-record l =
    (map (λ (row : Row). (row.last, row.lives)) (map counted_lent l.rows.items)
    ≡ filter (has_row l.part l.window) (map row_lent (take l.record-index l.records)))
    × ((each : List (List Hearing)) → AreEach Chronicles l.hearers.chronicles.now each
    → GivesSeconds (nat_lt 4 (length l.hearers.chronicles.now)) (λ key. each) l.hearers.by_record
    → All (IsCounted each) (map counted_lent l.rows.items))
    × (IsStrictlySortedBy key_cmp (map (λ (row : Latest × List Life). key_of_last row.0) (map row_lent l.servers))
    → All (λ (row : Row). row.servers ≡ servers_of (map row_lent l.servers) (body_of row.last)) (map counted_lent l.rows.items))
