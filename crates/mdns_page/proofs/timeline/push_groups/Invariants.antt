use Rattle.std.proofs.Common.{◌≡◌, ◌++◌, length, map}
use Rattle.std.specs.{List.{flat_map}, String.{string_bytes}}
use Rattle.mdns_page.specs.{Group.{grouped}, Html.{isolated}, Timeline.{counted_lent, group_text, owner_of}}
use Rattle.mdns_page.specs.declared.timeline_records.TimelinePart.TheVariants.{Instances}
use Rattle.mdns_page.proofs.timeline.push_groups.Given as goal

-- what was written, with the groups that are left, is all
abbrev pub invariant-loop-first : goal.invariant-loop-first
invariant-loop-first l =
    string_bytes l.to ++ flat_map (group_text isolated l.look l.opened Instances) (grouped owner_of (map counted_lent l.rest))
    ≡ string_bytes l.fn.to ++ flat_map (group_text isolated l.look l.opened Instances) (grouped owner_of (map counted_lent l.rows))

abbrev pub decreases-loop-first : goal.decreases-loop-first
decreases-loop-first l = length l.rest
