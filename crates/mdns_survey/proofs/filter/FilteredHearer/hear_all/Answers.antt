use Rattle.std.proofs.{Common.{◌≡◌, true, false, rules}, lemmas.Result.{on_ok_weaker}}
use Rattle.mdns_survey.specs.Filter.{counts, selected}
use Rattle.mdns_survey.proofs.SelectedLemmas.{selected-more, selected-same}
use Rattle.mdns_survey.proofs.filter.FilteredHearer.hear_all.Goals as goal

pub returns-then-not-counts : goal.returns-then-not-counts
returns-then-not-counts g c = λ begun heard stands.
    let which = c.args.self.now.filter in
    let fails : counts which c.args.moment ≡ false = search rules in (
      stands.0,
      selected-same which begun.filter stands.0 c.args.moment c.args.message.now c.args.read.now c.requires
          (g.H.Hearer.Stands begun.hearer c.args.self.now.hearer) heard fails stands.1,
    )

pub returns : goal.returns
returns g c =
    let which = c.args.self.now.filter in
    let counts_then : counts which c.args.moment ≡ true = search rules in
    on_ok_weaker c.hear_all.result
    (λ hears begun heard stands. (
      stands.0,
      selected-more which begun.filter stands.0 c.args.moment c.args.message.now c.args.read.now c.requires
          (g.H.Hearer.Stands begun.hearer c.hear_all.new.self) heard counts_then
          (hears begun.hearer (selected begun.filter heard) stands.1),
    ))
    c.hear_all.ensures
