use Rattle.mdns_page.proofs.PartLemmas.{parts3}
use Rattle.mdns_page.proofs.row_picture.push_picture_begin.Goals as goal

pub returns : goal.returns
returns c =
    parts3 _ _ _ _ _ _ _ c.in_ok-push_str.ensures.bytes c.in_ok-push_height.ensures c.in_ok-push_str-2.ensures.bytes
