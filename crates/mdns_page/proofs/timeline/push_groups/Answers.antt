use Rattle.std.proofs.{Common.{◌+◌, map, refl}, lemmas.List.{take_rest}}
use Rattle.std.specs.String.{string_bytes}
use Rattle.mdns_page.specs.{Html.{isolated}, Timeline.{counted_lent, group_text, owner_of}}
use Rattle.mdns_page.specs.declared.timeline_records.TimelinePart.TheVariants.{Instances}
use Rattle.mdns_page.proofs.GroupLemmas.{count-first, groups-more, groups-none}
use Rattle.mdns_page.proofs.timeline.push_groups.Goals as goal

pub loop-first-preserved : goal.loop-first-preserved
loop-first-preserved c =
    let rest = c.loop-first.rest.now in
    let len_after = c.following_len-len.result in
    let len = 1 + len_after in
    let count = count-first len_after (owner_of (counted_lent c.in-Some.first.now))
    (map (λ row. owner_of (counted_lent row)) c.in-Some.others.now) c.following_len-len.ensures.value in
    groups-more owner_of counted_lent (group_text isolated c.args.look c.args.opened Instances) _ (string_bytes c.loop-first.to)
    (string_bytes c.push_group.new.to) rest _ _ len c.in-Some.ensures.cases.0 refl (take_rest rest len) count
    c.loop-first.invariant c.in_ok-push_group.ensures

pub returns : goal.returns
returns c =
    groups-none owner_of counted_lent (group_text isolated c.args.look c.args.opened Instances) _ (string_bytes c.loop-first.to)
    c.loop-first.rest.now c.in_default.ensures.cases c.loop-first.invariant
