use Rattle.std.proofs.{Common.{◌≡◌, Bool, List, arith, length, subst, sym, true}, lemmas.{Bool.Decides.{nat_tests}, List.{take_all}}}
use Rattle.std.specs.Prelude.{nat_lt}
use Rattle.mdns_lives.specs.Chronicle.{Accounts, Chronicles}
use Rattle.mdns_browse.specs.Services.{AreEach}
use Rattle.mdns_page.specs.TimelineRows.{GivesSeconds}
use Rattle.mdns_page.proofs.{CountedLemmas.{next-by}, SecondsByCaptureLemmas.{gives-none}}
use Rattle.mdns_page.proofs.seconds_by_capture.seconds_by_record.Goals as goal

pub loop-chronicle-init : goal.loop-chronicle-init
loop-chronicle-init c = gives-none c.in_ok-by_record.by_record c.in_ok-by_record.ensures

pub loop-chronicle-preserved : goal.loop-chronicle-preserved
loop-chronicle-preserved c =
    next-by Chronicles (λ each. GivesSeconds true (λ key. each) c.add_capture.new.by_record) c.args.chronicles.now
    c.loop-chronicle.chronicle-index c.chronicle-item.result
    c.loop-chronicle-test.true c.chronicle-item.is (λ each last are is. c.in_ok-add_capture.ensures last is each (c.loop-chronicle.invariant each are))

pub returns : goal.returns
returns c = λ each are.
    let many : true ≡ nat_lt 4 (length c.args.chronicles.now) = grind (arith, nat_tests) in
    subst (λ (b : Bool). GivesSeconds b (λ key. each) c.loop-chronicle.by_record) many
    (c.loop-chronicle.invariant each (subst (λ (cs : List Accounts). AreEach Chronicles cs each)
    (sym (take_all c.loop-chronicle.chronicle-index c.args.chronicles.now (omega arith))) are))
