use Rattle.std.proofs.Common.{◌≡◌, ◌<◌, ◌++◌, ◌∷◌, [], List, length, get_or, subst, sym, rules}
use Rattle.mdns_cache.specs.Repeats.{Remembered}
use Rattle.mdns_lives.specs.MessageChronicle.{Recorded, RecordsAll, messages_with}
use Rattle.mdns_lives.proofs.MessageChronicleLemmas.{is_placed, reads-found, records-came}
use Rattle.mdns_lives.proofs.message_chronicle.MessageChronicle.hear_again.Goals as goal

pub returns-clause-reads : goal.returns-clause-reads
returns-clause-reads c = reads-found c.find.new.self c.in_ok-place.place c.in_ok-hearings.hearings c.args.message.now c.args.moment
    c.in_ok-place.ensures.found (c.in_ok-hearings.ensures.reads c.args.moment)

pub returns-clause-records : goal.returns-clause-records
returns-clause-records c = λ heard hearings reads s.
    let ms = c.find.new.self in
    let tss = c.self.inside.waiting.items in
    let place = c.in_ok-place.place in
    let ts = c.in_ok-waiting.waiting.now in
    let within : place < length tss = search rules in
    let is : ts ≡ get_or tss place ts = search rules in
    let added : c.add.new.self ≡ ts ++ c.args.moment ∷ [] = search rules in
    records-came c.one_message_outcome.ensures.one_list c.self.inside.chronicle ms tss place c.args.message.now ts c.add.new.self
    c.args.moment hearings reads
    (is_placed ms tss place c.args.message.now ts c.in_ok-place.ensures.within c.in_ok-place.ensures.found within is)
    added heard
    (subst (λ (xs : List Remembered). RecordsAll c.self.inside.chronicle (messages_with xs tss) heard) (sym c.find.ensures.same)
    (subst (λ (r : Recorded). RecordsAll r.contents r.memory heard) (sym c.self.view_is) s))
