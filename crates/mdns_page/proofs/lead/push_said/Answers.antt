use Rattle.std.proofs.{Common.{◌≡◌, ◌==◌, arith, false}, lemmas.Bool.Decides.{nat_tests}}
use Rattle.mdns_page.specs.Lead.{said_text}
use Rattle.mdns_page.proofs.PartLemmas.{parts3}
use Rattle.mdns_page.proofs.lead.push_said.Goals as goal

pub returns : goal.returns
unfolding said_text
returns c =
    let some : (c.args.count == 0) ≡ false = grind (arith, nat_tests, c.if-count-eq0.false) in
    rw some (parts3 _ _ _ _ _ _ _ c.in_ok-push_str.ensures.bytes c.in_ok-push_commas.ensures c.in_ok-push_str-2.ensures.bytes)
