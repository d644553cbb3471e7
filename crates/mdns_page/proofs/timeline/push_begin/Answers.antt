use Rattle.mdns_page.specs.Timeline.{timeline_begin}
use Rattle.mdns_page.proofs.PartLemmas.{parts7}
use Rattle.mdns_page.proofs.timeline.push_begin.Goals as goal

pub returns : goal.returns
unfolding timeline_begin
returns c =
    parts7 _ _ _ _ _ _ _ _ _ _ _ _ _ _ _ c.in_ok-push_str.ensures.bytes c.in_ok-push_if.ensures c.in_ok-push_if-2.ensures
    c.in_ok-push_if-3.ensures c.in_ok-push_str-2.ensures.bytes c.in_ok-push_legend.ensures c.in_ok-push_str-3.ensures.bytes
