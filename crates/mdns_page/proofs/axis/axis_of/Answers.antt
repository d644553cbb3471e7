use Rattle.std.proofs.Common.{◌∙◌, ap, max, refl}
use Rattle.mdns_survey.specs.{LivesAnswer.{earliest_nanos}, Readings.{all_moments}}
use Rattle.mdns_page.specs.Axis.{bound_or, dates_of}
use Rattle.mdns_page.proofs.axis.axis_of.Goals as goal

pub returns : goal.returns
returns c = λ packets have.
    let moments = all_moments packets in
    let until = c.bound_or-until.ensures in
    let first = c.nanos.ensures ∙ c.earliest-first.ensures packets have in
    let last = c.nanos-2.ensures ∙ c.later-last.ensures
    ∙ ap (max c.later-end.result.nanos)
    (c.later.ensures ∙ ap (max c.captures_end-now.result.nanos) (c.captures_end-latest.ensures packets have)) in
    record {
      asked = refl;
      now = c.captures_end-now.ensures packets have;
      begins = c.bound_or-start.ensures
          ∙ ap (λ n. bound_or n c.args.window.since)
          (c.earliest.ensures packets have ∙ ap (λ n. earliest_nanos n moments) until);
      ends = c.later-end.ensures ∙ ap (max c.bound_or-start.result.nanos) until;
      dates = c.dates_of.ensures ∙ (λ i. dates_of (first i) (last i));
    }
