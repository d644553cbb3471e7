use Rattle.mdns_page.specs.Document.{head}
use Rattle.mdns_page.proofs.PartLemmas.{parts5, parts7}
use Rattle.mdns_page.proofs.document.push_head.Goals as goal

pub returns : goal.returns
unfolding head
returns c =
    parts5 _ _ _ _ _ _ _ _ _ _ _
    (parts7 _ _ _ _ _ _ _ _ _ _ _ _ _ _ _ c.in_ok-push_str.ensures.bytes c.in_ok-push_title.ensures c.in_ok-push_str-2.ensures.bytes
    c.in_ok-push_str-3.ensures.bytes c.in_ok-push_str-4.ensures.bytes c.in_ok-push_height.ensures c.in_ok-push_str-5.ensures.bytes)
    c.in_ok-push_symbols.ensures c.in_ok-push_str-6.ensures.bytes c.in_ok-push_title-2.ensures c.in_ok-push_str-7.ensures.bytes
