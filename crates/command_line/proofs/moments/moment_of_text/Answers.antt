use Rattle.std.proofs.Common.{rules, ◌≡◌, refl, inl, inr, subst, sym}
use Rattle.command_line.specs.Moments.{IsDateTime}
use Rattle.command_line.proofs.moments.moment_of_text.Goals as goal

pub returns-in-None-clause-none : goal.returns-in-None-clause-none
returns-in-None-clause-none c = λ none moment is.
    let same : c.as_bytes.result.now ≡ c.args.text.now = search rules in
    elim is [
      | inl seconds ↦ c.in-None.ensures.none refl moment seconds
      | inr date_time ↦ c.date_time.ensures.none none moment (subst (λ text. IsDateTime text moment) (sym same) date_time)
    ]
