use Rattle.std.proofs.{Common.{◌∙◌, ◌++◌, ◌∷◌, [], ap, refl, subst, sym}, lemmas.{Bool.{false≢true}, Result.{on_ok_weaker}}}
use Rattle.mdns_survey.specs.{declared.outcome.PacketOutcome.{PacketOutcome}, Why.{IsPayloadOf, SaysWhy}, Listen.{outcome_of}}
use Rattle.mdns_survey.specs.Outcomes.{Outcome}
use Rattle.mdns_listeners.specs.{declared.listeners.MessageCollector.{MessageCollector}, KeptMessage.{HearsMessage}, Listeners.{Gathers}}
use Rattle.mdns_capture.specs.Capture.{packet_lent}
use Rattle.mdns_listeners.proofs.ListenersLemmas.{gathers-told}
use Rattle.mdns_listeners.proofs.listeners.MessageCollectorConsumer.take.Goals as goal

pub returns-else-is_empty-clause-took : goal.returns-else-is_empty-clause-took
returns-else-is_empty-clause-took c =
    let frame = c.args.packet.now.frame.now in
    let payload = c.args.payload.now in
    let source = c.in-Heard.source in
    let message = c.in-Heard.message.now in
    let old = c.args.self.now in
    let new : MessageCollector = record { by_file = old.by_file; place = old.place; messages = c.hear.new.self } in
    on_ok_weaker c.hear.result (λ hears begun packets outcomes took.
    subst (λ (o : Outcome). Gathers begun new (packets ++ packet_lent c.args.packet.now ∷ []) (outcomes ++ o ∷ []))
    (sym (ap outcome_of c.in-Heard.is))
    (gathers-told begun old new packets outcomes (packet_lent c.args.packet.now) source payload message took refl refl
    (subst (λ at. HearsMessage source payload at message old.messages new.messages) c.heard_at-at.ensures hears)
    (subst (SaysWhy frame) c.in-Heard.is c.requires.why)
    (subst (λ (found : PacketOutcome). IsPayloadOf frame found payload) c.in-Heard.is c.requires.payload)
    (λ none. false≢true (sym c.if-is_empty.false ∙ c.is_empty.ensures.1 none)))) c.hear.ensures.ok
