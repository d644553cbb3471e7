use Rattle.std.proofs.{Common.{◌∙◌, sym}, lemmas.List.{nil_from_length}, lemmas.Result.{IfOk-weaker}}
use Rattle.mdns_cache.proofs.MemoryLemmas.{stands-whole}
use Rattle.mdns_cache.proofs.message_gathering.MessageGathering.finish.Goals as goal

pub loop-message-init : goal.loop-message-init
loop-message-init c = λ heard s. rw (c.into_iter-message-iterator.ensures.into_iter_gives.0, c.into_all-message-items.ensures) (rw (← c.self.view_is) at s)

pub loop-message-preserved : goal.loop-message-preserved
loop-message-preserved c = λ heard s.
    c.in_ok-hear_message.ensures c.next.new.self.rest.items heard (rw c.in-Some.ensures.steps.0 at (c.loop-message.invariant heard s))

pub returns : goal.returns
returns c = IfOk-weaker c.finish.result _ _
    (λ cache stands heard s.
    let rest = c.loop-message.message-iterator.rest in
    stands heard (stands-whole c.loop-message.gathering heard
    (rw (nil_from_length rest.items (sym rest.ok.0 ∙ c.in-None.ensures.steps.0)) at (c.loop-message.invariant heard s))))
    c.finish.ensures.stands
