use Rattle.std.proofs.{Common.{◌≡◌, ◌∙◌, ◌+◌, ◌++◌, ap, map, refl, take, codes}, lemmas.List.{take_rest}}
use Rattle.std.specs.{List.{filter_map, flat_map}, String.{string_bytes}}
use Rattle.mdns_cache.specs.LentRecords.{last_lent}
use Rattle.mdns_browse.specs.{Given.{given_lent}, Services.{instance_row_in}}
use Rattle.mdns_page.specs.{declared.axis.Axis.{Axis}, Html.{isolated}, LiveSection.{live_group, live_row, type_of}, LiveSheet.{type_begin}}
use Rattle.mdns_page.proofs.{GroupLemmas.{count-first, groups-more, groups-none}, LiveLemmas.{group-at}}
use Rattle.mdns_page.proofs.live_section.push_groups.Goals as goal

pub loop-first-init : goal.loop-first-init
loop-first-init c sorted = (refl, refl)

pub loop-first-preserved : goal.loop-first-preserved
loop-first-preserved c sorted =
    let rest = c.loop-first.rest.now in
    let opened = c.args.opened in
    let axis = c.args.sheet.now.axis in
    let lasts = map last_lent c.args.rows.now in
    let len_after = c.following_len-len.result in
    let len = 1 + len_after in
    let first = c.in-Some.first.now in
    let others = c.in-Some.others.now in
    let split = c.in-Some.ensures.cases.0 in
    let count = count-first len_after (type_of (given_lent first)) (map (λ given. type_of (given_lent given)) others)
    c.following_len-len.ensures.value in
    let so_far = c.loop-first.invariant sorted in
    let more = c.in_ok-push_group.ensures sorted in
    let written : string_bytes c.push_group.new.sheet.text
    ≡ string_bytes c.loop-first.sheet.text ++ live_group isolated axis opened lasts (map given_lent (take len rest)) =
    more.written
    ∙ ap (λ (a : Axis). string_bytes c.loop-first.sheet.text ++ (type_begin isolated opened (type_of (given_lent first))
    ++ flat_map (live_row isolated a) (filter_map (instance_row_in lasts) (map given_lent (take len rest))) ++ codes "</ul></details>\n")) so_far.0
    ∙ ap (λ text. string_bytes c.loop-first.sheet.text ++ text)
    (group-at given_lent isolated axis opened lasts rest first others len_after split) in (
      more.axis ∙ so_far.0,
      groups-more type_of given_lent (live_group isolated axis opened lasts) _ (string_bytes c.loop-first.sheet.text)
          (string_bytes c.push_group.new.sheet.text) rest first others len split refl (take_rest rest len) count so_far.1 written,
    )

pub returns : goal.returns
returns c sorted =
    let so_far = c.loop-first.invariant sorted in
    record {
      axis = so_far.0;
      written = groups-none type_of given_lent (live_group isolated c.args.sheet.now.axis c.args.opened (map last_lent c.args.rows.now)) _
          (string_bytes c.loop-first.sheet.text) c.loop-first.rest.now c.in_default.ensures.cases so_far.1;
    }
