use Rattle.std.proofs.Common.{◌≡◌, map, take}
use Rattle.std.specs.List.{filter}
use Rattle.mdns_cache.specs.LentRecords.{last_lent}
use Rattle.mdns_lives.specs.{declared.live_since.LiveSince.{LiveSince}, Since.{live_since_lent}}
use Rattle.mdns_browse.specs.{Given.{given_lent}, Services.{AreAscending}}
use Rattle.mdns_page.specs.{Page.{given_of_since}, TimelineRecords.{is_drawn}}
use Rattle.mdns_page.proofs.page.live_of.Given as goal

-- the last hearings of the records so far, and those of them that are drawn
abbrev pub invariant-loop-row : goal.invariant-loop-row
invariant-loop-row l =
    (map last_lent l.rows.items ≡ map (λ (row : LiveSince). last_lent row.last) (take l.row-index l.row-items))
    × (AreAscending (map last_lent l.heard) → map given_lent l.given.items
    ≡ filter (λ given. is_drawn l.about (map last_lent l.heard) given.last)
    (map (λ (row : LiveSince). given_of_since (live_since_lent row)) (take l.row-index l.row-items)))
