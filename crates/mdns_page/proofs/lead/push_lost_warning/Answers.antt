use Rattle.std.proofs.{Common.{◌≡◌, ◌==◌, arith, false}, lemmas.Bool.Decides.{nat_tests}}
use Rattle.mdns_page.specs.Lead.{lost_warning}
use Rattle.mdns_page.proofs.PartLemmas.{parts3}
use Rattle.mdns_page.proofs.lead.push_lost_warning.Goals as goal

pub returns : goal.returns
unfolding lost_warning
returns c =
    let some : (c.args.lost == 0) ≡ false = grind (arith, nat_tests, c.if-lost-eq0.false) in
    rw some (parts3 _ _ _ _ _ _ _ c.in_ok-push_str.ensures.bytes c.in_ok-push_count.ensures c.in_ok-push_str-2.ensures.bytes)
