use Rattle.std.proofs.Common.{◌≡◌, get_or, ap, ◌∙◌, rules}
use Rattle.mdns_lives.specs.Seconds.{join_seconds, only}
use Rattle.mdns_lives.proofs.SecondsLemmas.{joined_none, joined_next}
use Rattle.mdns_lives.proofs.history.History.add_all.Goals as goal

pub loop-item-init : goal.loop-item-init
loop-item-init c = joined_none c.args.self.now

pub loop-item-preserved : goal.loop-item-preserved
loop-item-preserved c =
    let items = c.args.items.now in
    let i = c.loop-item.item-index in
    let item = c.item-item.result in
    let is : item ≡ get_or items i item = search rules in
    joined_next c.args.self.now c.loop-item.self c.add.new.self items i item c.valid.ensures c.loop-item-test.true is
    c.loop-item.invariant (c.in_ok-add.ensures.ok ∙ ap (λ h. join_seconds c.loop-item.self (only h)) c.heard.ensures)
