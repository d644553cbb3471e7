use Rattle.std.proofs.{Common.{arith}, lemmas.Str.Parse.{digits_value_short, parse_digits}}
use Rattle.command_line.proofs.FractionLemmas.{own, unread}
use Rattle.command_line.proofs.moments.fraction_of.Goals as goal

pub returns-in-Err-clause-value : goal.returns-in-Err-clause-value
returns-in-Err-clause-value c =
    let reads = rw c.in-Ok.ensures.cases.0 at c.parse.ensures.value.0 in
    unread c.args.digits.now
    (λ all some few.
    let small = digits_value_short own c.args.digits.now 9 all few in
    (rw c.in-Err.is at (parse_digits own 32 c.args.digits.now c.parse.result reads all)) (some, omega (arith, small)))
