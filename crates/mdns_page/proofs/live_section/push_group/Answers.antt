use Rattle.std.proofs.Common.{map, refl}
use Rattle.std.specs.List.{filter_map}
use Rattle.mdns_cache.specs.LentRecords.{last_lent}
use Rattle.mdns_browse.specs.{Given.{given_lent}, Services.{instance_row_in}}
use Rattle.mdns_page.proofs.LiveLemmas.{group_by_parts}
use Rattle.mdns_page.proofs.live_section.push_group.Goals as goal

pub returns : goal.returns
returns c sorted =
    group_by_parts c.args.opened c.args.owner.now
    (filter_map (instance_row_in (map last_lent c.args.rows.now)) (map given_lent c.args.given.now)) _ _ _ _ c.in_ok-begin_type.ensures
    (c.in_ok-walk_given.ensures sorted) refl c.in_ok-push_str.ensures.bytes
