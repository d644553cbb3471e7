use Rattle.std.proofs.Common.{◌∙◌, ◌++◌, ◌∷◌, [], ap, length, map, sym, take}
use Rattle.std.specs.Prelude.{nat_lt}
use Rattle.mdns_message.specs.Resource.{key_of}
use Rattle.mdns_lives.specs.{Chronicle.{Accounts}, Heard.{seconds_held}}
use Rattle.mdns_page.specs.Timeline.{shown_seconds}
use Rattle.mdns_page.proofs.{CountedLemmas.{shown-more}, KeptLemmas.{map-more}}
use Rattle.mdns_page.proofs.seconds_by_capture.Hearers.look_up.Goals as goal

pub loop-chronicle-preserved : goal.loop-chronicle-preserved
loop-chronicle-preserved c =
    let chronicles = c.args.self.now.chronicles.now in
    let many = nat_lt 4 (length chronicles) in
    let held = λ (a : Accounts). seconds_held a (key_of c.args.resource.now) in
    let so_far = map held (take c.loop-chronicle.chronicle-index chronicles) in
    c.in_ok-push_seconds_heard.ensures
    ∙ (λ i. c.loop-chronicle.invariant i ++ shown_seconds many (c.in_ok-seconds.ensures.value i ∷ []))
    ∙ sym (shown-more many so_far (held c.chronicle-item.result))
    ∙ ap (shown_seconds many) (sym (map-more held chronicles c.loop-chronicle.chronicle-index c.chronicle-item.result c.loop-chronicle-test.true
    c.chronicle-item.is))
