use Rattle.std.proofs.Common.{◌≡◌, true, false, subst, sym, rules}
use Rattle.mdns_cache.proofs.MemoryLemmas.{IfSome-weaker}
use Rattle.mdns_survey.specs.Filter.{counts, selected}
use Rattle.mdns_survey.proofs.SelectedLemmas.{selected-more, selected-same}
use Rattle.mdns_survey.proofs.filter.FilteredHearer.hear_again.Goals as goal

pub returns-then-not-counts-clause-stands : goal.returns-then-not-counts-clause-stands
returns-then-not-counts-clause-stands g c =
    let which = c.args.self.now.filter in
    let fails : counts which c.args.moment ≡ false = search rules in
    IfSome-weaker c.count.result _ _
    (λ count r hearings reads begun heard stands. (
      stands.0,
      selected-same which begun.filter stands.0 c.args.moment c.args.message.now hearings reads
          (g.H.Hearer.Stands begun.hearer c.count.new.self) heard fails
          (subst (λ hearer. g.H.Hearer.Stands begun.hearer hearer (selected begun.filter heard)) (sym c.count.ensures.same) stands.1),
    ))
    (c.count.ensures.reads c.args.moment)

pub returns-clause-stands : goal.returns-clause-stands
returns-clause-stands g c =
    let which = c.args.self.now.filter in
    let counts_then : counts which c.args.moment ≡ true = search rules in
    IfSome-weaker c.hear_again.result _ _
    (λ count again hearings reads begun heard stands. (
      stands.0,
      selected-more which begun.filter stands.0 c.args.moment c.args.message.now hearings reads
          (g.H.Hearer.Stands begun.hearer c.hear_again.new.self) heard counts_then
          (again hearings reads begun.hearer (selected begun.filter heard) stands.1),
    ))
    c.hear_again.ensures.stands
