use Rattle.std.proofs.Common.{List, [], append-nil, refl, subst, sym}
use Rattle.mdns_message.specs.declared.hearing.Hearing.{Hearing}
use Rattle.mdns_lives.specs.MessageChronicle.{RecordsAll}
use Rattle.mdns_survey.specs.{Filter.{selected}, Outcomes.{hearings_in}}
use Rattle.mdns_page.proofs.ByListenerLemmas.{hears-more}
use Rattle.mdns_page.proofs.listener_lives.ListenerLives.collect_from.Goals as goal

pub returns-in-Ok-add-clause-heard : goal.returns-in-Ok-add-clause-heard
returns-in-Ok-add-clause-heard g c =
    let taken = c.in-Ok.ensures.taken in
    let filter = c.args.filter in
    let took = taken.took (record { hearer = c.new.result; filter = filter }) (λ begun before stands. (
      stands.0,
      subst (λ (hearings : List Hearing). RecordsAll c.new.result.contents c.new.result.memory (selected begun.filter hearings))
          (sym (append-nil before)) stands.1,
    )) in
    let recorded = (took (record { hearer = c.new.result; filter = filter }) [] (refl, c.new.ensures)).1 in
    record {
      packets = taken.packets;
      outcomes = taken.outcomes;
      is_reading = taken.is_reading;
      hears = λ begun earlier before. hears-more filter begun c.args.self.now c.add.new.self earlier before taken.packets taken.outcomes
          (c.in-Ok-add.ensures (selected filter (hearings_in taken.outcomes)) recorded);
    }
