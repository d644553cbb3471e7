use Rattle.std.proofs.{Common.{rules, arith, ◌≡◌, ◌∙◌, Some, None, sym, subst}, lemmas.Option.{none-some}}
use Rattle.command_line.specs.MomentReading.{IsAtSecond, fraction_of}
use Rattle.command_line.proofs.GrammarLemmas.{fraction-complete, fraction-sound}
use Rattle.command_line.proofs.SecondsLemmas.{SplitsAt, dotted-parts, dotted-told, whole-parts, whole-told}
use Rattle.command_line.proofs.moments.seconds.Goals as goal

pub returns-in_err-nanos-in-Some-clause-none : goal.returns-in_err-nanos-in-Some-clause-none
returns-in_err-nanos-in-Some-clause-none c = λ _ moment is.
    let parts = c.in-Some.ensures.byte (omega arith) (λ w o h. h) in
    let at : SplitsAt c.args.text.now c.in-Some.whole.now c.in-Some.digits.now =
    record { whole_is = parts.0; digits_are = parts.1; within = parts.2 } in
    let none : fraction_of c.in-Some.digits.now ≡ None = search rules in
    let has = dotted-parts _ _ _ at moment is in
    none-some _ (sym none ∙ fraction-complete c.in-Some.digits.now is.nanos has.0)

pub returns-in_ok-nanos-in-Some-clause-some : goal.returns-in_ok-nanos-in-Some-clause-some
returns-in_ok-nanos-in-Some-clause-some c = search (rules, dotted-told, fraction-sound)

pub returns-in_ok-nanos-in-Some-clause-none : goal.returns-in_ok-nanos-in-Some-clause-none
returns-in_ok-nanos-in-Some-clause-none c = λ none moment is.
    let parts = c.in-Some.ensures.byte (omega arith) (λ w o h. h) in
    let at : SplitsAt c.args.text.now c.in-Some.whole.now c.in-Some.digits.now =
    record { whole_is = parts.0; digits_are = parts.1; within = parts.2 } in
    let some : fraction_of c.in-Some.digits.now ≡ Some c.in_ok-nanos-in-Some.nanos = search rules in
    let has = dotted-parts _ _ _ at moment is in
    let found = (fraction-sound c.in-Some.digits.now c.in_ok-nanos-in-Some.nanos some).2 in
    let same : is.nanos ≡ c.in_ok-nanos-in-Some.nanos = has.0.2 ∙ sym found in
    c.at_second.ensures.none none moment (subst (λ n. IsAtSecond c.in-Some.whole.now n moment) same has.1)

pub returns-in-None-clause-some : goal.returns-in-None-clause-some
returns-in-None-clause-some c = whole-told c.args.text.now c.at_second-in-None.result c.at_second-in-None.ensures.some

pub returns-in-None-clause-none : goal.returns-in-None-clause-none
returns-in-None-clause-none c = λ none moment is.
    let dotless = c.in-None.ensures.byte (omega arith) (λ w o h. h) in
    c.at_second-in-None.ensures.none none moment (whole-parts c.args.text.now dotless moment is)
