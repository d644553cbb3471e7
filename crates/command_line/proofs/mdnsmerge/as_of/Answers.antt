use Rattle.std.proofs.Common.{rules, ◌≡◌, None, Some, inl, inr, refl}
use Rattle.command_line.specs.Line.{text_of}
use Rattle.command_line.proofs.mdnsmerge.as_of.Goals as goal

pub returns-in-None-clause-err : goal.returns-in-None-clause-err
returns-in-None-clause-err c =
    let at : text_of c.args.options.now.at ≡ None = search rules in
    let before : text_of c.args.options.now.before ≡ Some c.in-None-Some.before.now = search rules in
    inr ((refl, before, c.in-None.ensures.none refl), at)

pub returns-in-None-moment_of_text-clause-err : goal.returns-in-None-moment_of_text-clause-err
returns-in-None-moment_of_text-clause-err c =
    let at : text_of c.args.options.now.at ≡ Some c.in-Some-None.at.now = search rules in
    let before : text_of c.args.options.now.before ≡ None = search rules in
    inl ((refl, at, c.in-None-moment_of_text.ensures.none refl), before)
