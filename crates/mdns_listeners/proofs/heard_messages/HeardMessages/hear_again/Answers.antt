use Rattle.std.proofs.{Common.{◌≡◌, ◌<◌, ◌∙◌, [], ap, get_or, length, rules, subst, sym, arith}, lemmas.List.{get_or-map}}
use Rattle.mdns_listeners.specs.{KeptMessage.{HeardSoFar, KeptMessage, kept_messages, payload_in}, SenderNames.{AddsNames, told_in}}
use Rattle.mdns_listeners.proofs.{HeldNameLemmas.{HoldsNames-more, suffice-adds}, KeptLemmas.{known-named, known-some, told-noted}}
use Rattle.mdns_listeners.proofs.heard_messages.HeardMessages.hear_again.Goals as goal
use Rattle.std.proofs.lemmas.Grind.{common_steps}

pub returns-clause-adds : goal.returns-clause-adds
returns-clause-adds c = grind (arith, common_steps, told-noted)

pub returns-clause-hears : goal.returns-clause-hears
returns-clause-hears c hearings reads =
    let kept = c.self.inside.kept.items in
    let names = c.self.inside.names in
    let place = c.in_ok-place.place in
    let payload = c.args.payload.now in
    let message = c.write_message.new.message.items in
    let none : KeptMessage = record { message = []; place = 0; hearings = 0 } in
    let within : place < length kept = search rules in
    let found : get_or (kept_messages kept) place [] ≡ message = search rules in
    let carried : payload_in message ≡ payload = search rules in
    let one = get_or kept place none in
    let is : payload_in one.message ≡ payload =
    ap payload_in (sym (get_or-map (λ (o : KeptMessage). o.message) kept place none [] within) ∙ found) ∙ carried in
    let read = c.self.invariant.read place none within in (
      known-some names one payload read is c.args.at.moment hearings reads,
      record {
        told = ap (λ (s : HeardSoFar). s.told) (returns-clause-adds c);
        names = λ earlier. HoldsNames-more c.args.self.now.names names earlier hearings
            (subst (λ ns. AddsNames ns names (told_in hearings)) (ap (λ (s : HeardSoFar). s.names) c.self.view_is)
            (suffice-adds names (told_in hearings) (known-named names one payload read is c.args.at.moment hearings reads)));
      },
    )
