use Rattle.mdns_page.proofs.PartLemmas.{parts10}
use Rattle.mdns_page.proofs.row_picture.push_picture.Goals as goal

pub returns : goal.returns
returns c =
    parts10 _ _ _ _ _ _ _ _ _ _ _ _ _ _ _ _ _ _ _ _ _ c.in_ok-push_picture_begin.ensures c.in_ok-push_bars.ensures
    c.in_ok-push_servers.ensures c.in_ok-push_path.ensures c.in_ok-push_path-2.ensures c.in_ok-push_path-3.ensures
    c.in_ok-push_path-4.ensures c.in_ok-push_path-5.ensures c.in_ok-push_lanes.ensures c.in_ok-push_str.ensures.bytes
