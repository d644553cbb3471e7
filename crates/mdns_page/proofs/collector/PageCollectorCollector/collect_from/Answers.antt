use Rattle.std.proofs.{Common.{◌∙◌, ◌++◌, ◌∷◌, List, [], append-nil, refl, subst, sym}, lemmas.Result.{IfOk-weaker}}
use Rattle.mdns_message.specs.declared.hearing.Hearing.{Hearing}
use Rattle.mdns_lives.specs.MessageChronicle.{RecordsAll}
use Rattle.mdns_survey.specs.{declared.filter.Filter.{Filter}, Filter.{selected}, Outcomes.{hearings_in}}
use Rattle.mdns_listeners.proofs.ListenersLemmas.{gathers-none}
use Rattle.mdns_page.specs.ByListener.{HearsFiles}
use Rattle.mdns_page.proofs.{ByListenerLemmas.{hears-more}, ComparedLemmas.{gathers-more, gathers-no_more}}
use Rattle.mdns_page.proofs.collector.PageCollectorCollector.collect_from.Goals as goal

-- listeners that aren't compared
pub returns-in_default-clause-heard : goal.returns-in_default-clause-heard
returns-in_default-clause-heard g c =
    IfOk-weaker c.collect_from.result _ _ (λ reading listens. record {
      packets = listens.packets;
      outcomes = listens.outcomes;
      is_reading = listens.is_reading;
      hears = λ begun earlier before collected. (
        collected.0,
        subst (λ (which : Filter). HearsFiles which begun.lives c.collect_from.new.self (earlier ++ listens.packets ∷ [])
            (before ++ listens.outcomes ∷ [])) collected.0
            (listens.hears begun.lives earlier before
            (subst (λ (which : Filter). HearsFiles which begun.lives c.args.self.now.lives earlier before) (sym collected.0) collected.1)),
        gathers-no_more begun.messages c.args.self.now.messages c.take.new.self earlier before listens.packets listens.outcomes
            (sym c.in_default.ensures.value) c.in_default.ensures.after collected.2,
      );
    }) c.collect_from.ensures.heard

pub returns-in-Ok-add-clause-heard : goal.returns-in-Ok-add-clause-heard
returns-in-Ok-add-clause-heard g c =
    let taken = c.in-Ok.ensures.taken in
    let messages = c.in-Some.messages in
    let now = c.listen_with.new.consumer in
    let added = c.in-Ok-add.ensures.messages in
    let filter = c.args.self.now.filter in
    let took = taken.took (record { hearer = record { hearer = c.new.result; filter = filter }; messages = messages }) (
      λ begun before stands. (
        stands.0,
        subst (λ (hearings : List Hearing). RecordsAll c.new.result.contents c.new.result.memory (selected begun.filter hearings))
            (sym (append-nil before)) stands.1,
      ),
      gathers-none messages,
    ) in
    let recorded = (took.0 (record { hearer = c.new.result; filter = filter }) [] (refl, c.new.ensures)).1 in
    record {
      packets = taken.packets;
      outcomes = taken.outcomes;
      is_reading = taken.is_reading;
      hears = λ begun earlier before collected. (
        c.in-Ok-add.ensures.filter ∙ collected.0,
        hears-more begun.filter begun.lives c.args.self.now.lives c.add.new.self.lives earlier before taken.packets taken.outcomes
            (c.in-Ok-add.ensures.lives (selected begun.filter (hearings_in taken.outcomes))
            (subst (λ (which : Filter). RecordsAll now.hearer.hearer.contents now.hearer.hearer.memory
            (selected which (hearings_in taken.outcomes))) collected.0 recorded))
            collected.1,
        gathers-more begun.messages c.args.self.now.messages c.add.new.self.messages messages now.messages added.0 earlier before
            taken.packets taken.outcomes (sym c.in-Some.ensures.value) added.1 took.1 added.2 collected.2,
      );
    }
