use Rattle.mdns_page.specs.Lead.{bounds_line}
use Rattle.mdns_page.proofs.PartLemmas.{parts4}
use Rattle.mdns_page.proofs.lead.push_bounds_line.Goals as goal

pub returns : goal.returns
unfolding bounds_line
returns c =
    parts4 _ _ _ _ _ _ _ _ _ c.in_ok-push_str.ensures.bytes c.in_ok-push_bound.ensures c.in_ok-push_bound-2.ensures
    c.in_ok-push_str-2.ensures.bytes
