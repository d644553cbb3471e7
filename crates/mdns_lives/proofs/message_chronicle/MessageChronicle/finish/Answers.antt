use Rattle.std.proofs.Common.{List, subst, sym}
use Rattle.mdns_capture.specs.declared.moment.Moment.{Moment}
use Rattle.mdns_lives.specs.MessageChronicle.{Recorded, RecordsAll, messages_with}
use Rattle.mdns_lives.proofs.message_chronicle.MessageChronicle.finish.Goals as goal

pub returns : goal.returns
returns c = λ heard s. c.in_ok-hear_messages.ensures heard
    (subst (λ (tss : List (List Moment)). RecordsAll c.self.inside.chronicle (messages_with c.self.inside.messages tss) heard)
    (sym c.as_slice.ensures.value) (subst (λ (r : Recorded). RecordsAll r.contents r.memory heard) (sym c.self.view_is) s))
