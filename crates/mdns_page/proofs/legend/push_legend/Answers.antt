use Rattle.std.proofs.Common.{◌∙◌, ◌++◌, ap, List, ℕ}
use Rattle.std.specs.String.{string_bytes}
use Rattle.mdns_page.specs.Legend.{key, key_entry}
use Rattle.mdns_page.proofs.PartLemmas.{parts3}
use Rattle.mdns_page.proofs.legend.push_legend.Goals as goal

pub returns : goal.returns
unfolding key key_entry
returns c =
    parts3 _ _ _ _ _ _ _ c.in_ok-push_str.ensures.bytes
    (c.in_ok-push_str-2.ensures.bytes ∙ ap (λ (lanes : List ℕ). string_bytes c.push_str.new.self ++ lanes) c.lanes_key.ensures)
    c.in_ok-push_str-3.ensures.bytes
