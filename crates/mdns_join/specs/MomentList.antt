-- Moments in place, or on the heap.
use Rattle.std.specs.Prelude.{◌≤◌, List, take}
use Rattle.mdns_capture.specs.declared.moment.Moment.{Moment}
use Rattle.mdns_join.specs.declared.moment_list.Items.{Items}
use Rattle.mdns_join.specs.declared.moment_list.Items.TheVariants as items

-- the moments that are listed
abbrev pub moments_listed : Items → List Moment
moments_listed (items.Few count moments) = take count moments
moments_listed (items.Many moments) = moments.value

-- a count of moments in place is at most 2
abbrev pub IsMomentList : Items → Type 0
IsMomentList (items.Few count moments) = count ≤ 2
IsMomentList (items.Many moments) = Unit {0}
