use Rattle.std.proofs.Common.{◌∙◌, ap, map, string_bytes}
use Rattle.mdns_cache.specs.LentRecords.{last_lent}
use Rattle.mdns_browse.specs.Given.{given_lent}
use Rattle.mdns_page.proofs.{LiveLemmas.{live_by_parts}, PartLemmas.{parts3}}
use Rattle.mdns_page.proofs.live_section.push_live.Goals as goal

pub returns : goal.returns
returns c sorted =
    live_by_parts c.args.axis c.args.opened (map last_lent c.args.rows.now) (map given_lent c.args.given.now) (string_bytes c.args.to.now)
    (string_bytes c.push_str-2.new.self) _ c.new-sheet.result c.push_groups.new.sheet (parts3 _ _ _ _ _ _ _ c.in_ok-push_str.ensures.bytes
    c.in_ok-push_end.ensures c.in_ok-push_str-2.ensures.bytes)
    (c.new-sheet.ensures.text ∙ ap string_bytes c.replace.ensures.value) c.new-sheet.ensures.axis (c.in_ok-push_groups.ensures sorted)
    c.in_ok-push_str-3.ensures.bytes
