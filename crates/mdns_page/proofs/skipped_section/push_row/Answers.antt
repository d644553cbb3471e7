use Rattle.std.proofs.{Common.{◌≡◌, ◌==◌, arith, false}, lemmas.Bool.Decides.{nat_tests}}
use Rattle.mdns_page.specs.SkippedSection.{row_text}
use Rattle.mdns_page.proofs.PartLemmas.{parts7}
use Rattle.mdns_page.proofs.skipped_section.push_row.Goals as goal

pub returns : goal.returns
unfolding row_text
returns c =
    let some : (c.args.count == 0) ≡ false = grind (arith, nat_tests, c.if-count-eq0.false) in
    rw some (parts7 _ _ _ _ _ _ _ _ _ _ _ _ _ _ _ c.in_ok-push_str.ensures.bytes c.in_ok-push_commas.ensures
    c.in_ok-push_str-2.ensures.bytes c.in_ok-push_str-3.ensures.bytes c.in_ok-push_str-4.ensures.bytes c.in_ok-push_meaning.ensures
    c.in_ok-push_str-5.ensures.bytes)
