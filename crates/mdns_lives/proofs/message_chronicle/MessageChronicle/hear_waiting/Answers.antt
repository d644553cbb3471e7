use Rattle.std.proofs.Common.{◌≡◌, ◌<◌, ◌∙◌, length, get_or, subst, sym, rules}
use Rattle.mdns_lives.specs.MessageChronicle.{Recorded, RecordsAll}
use Rattle.mdns_lives.proofs.{HearingLemmas.{chronicles-each}, MessageChronicleLemmas.{is_placed, records-emptied}}
use Rattle.mdns_lives.proofs.message_chronicle.MessageChronicle.hear_waiting.Goals as goal

pub returns : goal.returns
returns c = λ heard s.
    let ms = c.self.inside.messages in
    let tss = c.self.inside.waiting.items in
    let place = c.self.inside.found in
    let ts = c.in-Some-get_mut.waiting.now in
    let message = c.args.message.now in
    let within : place < length tss = search rules in
    let is : ts ≡ get_or tss place ts = search rules in
    let same : c.in-Some.bytes.now ≡ message = search rules in
    records-emptied c.self.inside.chronicle c.hear_and_clear.new.chronicle ms tss place message ts c.hear_and_clear.new.waiting
    (is_placed ms tss place message ts c.in-Some.ensures.within (λ d. c.in-Some.ensures.some d ∙ same) within is)
    c.in_ok-hear_and_clear.ensures.empty
    (λ told t. chronicles-each c.one_message_outcome.ensures.one_list c.hear_and_clear.new.chronicle message ts c.args.moment
    c.args.read.now told c.requires (c.in_ok-hear_and_clear.ensures.hears told t))
    heard (subst (λ (r : Recorded). RecordsAll r.contents r.memory heard) (sym c.self.view_is) s)
