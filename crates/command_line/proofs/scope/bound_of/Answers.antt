use Rattle.std.proofs.Common.{rules, ◌≡◌, Some, refl}
use Rattle.command_line.specs.Line.{text_of}
use Rattle.command_line.proofs.scope.bound_of.Goals as goal

pub returns-in-None-clause-err : goal.returns-in-None-clause-err
returns-in-None-clause-err c =
    let is : text_of c.args.given ≡ Some c.in-Some.text.now = search rules in
    (refl, is, c.in-None.ensures.none refl)
