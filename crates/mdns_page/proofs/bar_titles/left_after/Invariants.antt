use Rattle.std.proofs.Common.{◌≡◌, ◌+◌, length, map, take}
use Rattle.std.specs.List.{flat_map}
use Rattle.mdns_page.specs.Timeline.{counted_lent, lives_in}
use Rattle.mdns_page.proofs.bar_titles.left_after.Given as goal

-- the lives of the rows so far were subtracted
abbrev pub invariant-loop-row : goal.invariant-loop-row
invariant-loop-row l = l.left + length (flat_map lives_in (map counted_lent (take l.row-index l.rows))) ≡ l.count
