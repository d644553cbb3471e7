use Rattle.std.proofs.Common.{◌≡◌, ◌++◌, length, map}
use Rattle.std.specs.{List.{flat_map}, String.{string_bytes}}
use Rattle.mdns_cache.specs.LentRecords.{last_lent}
use Rattle.mdns_browse.specs.{Given.{given_lent}, Services.{AreAscending}}
use Rattle.mdns_page.specs.{Group.{grouped}, Html.{isolated}, LiveSection.{live_group, type_of}}
use Rattle.mdns_page.proofs.live_section.push_groups.Given as goal

-- what was written, with the groups that are left, is all
abbrev pub invariant-loop-first : goal.invariant-loop-first
invariant-loop-first l =
    let text = live_group isolated l.initial.sheet.axis l.opened (map last_lent l.rows) in
    AreAscending (map last_lent l.rows) → (l.sheet.axis ≡ l.initial.sheet.axis)
    × (string_bytes l.sheet.text ++ flat_map text (grouped type_of (map given_lent l.rest))
    ≡ string_bytes l.initial.sheet.text ++ flat_map text (grouped type_of (map given_lent l.given)))

abbrev pub decreases-loop-first : goal.decreases-loop-first
decreases-loop-first l = length l.rest
