use Rattle.mdns_page.specs.Captures.{recorded_picture}
use Rattle.mdns_page.proofs.PartLemmas.{parts3}
use Rattle.mdns_page.proofs.captures.push_picture.Goals as goal

pub returns : goal.returns
unfolding recorded_picture
returns c =
    parts3 _ _ _ _ _ _ _ c.in_ok-push_str.ensures.bytes c.in_ok-push_recorded_path.ensures c.in_ok-push_str-2.ensures.bytes
