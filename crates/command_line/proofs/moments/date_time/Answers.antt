use Rattle.std.proofs.{Common.{rules, ◌≡◌, ◌∙◌, Some, None, refl, sym}, lemmas.Option.{none-some}}
use Rattle.command_line.specs.MomentReading.{read_date_time}
use Rattle.command_line.proofs.DateTimeLemmas.{date_time-complete, moments-told, unread-told}
use Rattle.command_line.proofs.moments.date_time.Goals as goal

pub returns-in_err-local-clause-none : goal.returns-in_err-local-clause-none
returns-in_err-local-clause-none c = λ _ moment is.
    let none : read_date_time c.args.text.now ≡ None = search rules in
    none-some _ (sym none ∙ date_time-complete c.args.text.now moment is)

pub returns-in_err-since-clause-none : goal.returns-in_err-since-clause-none
returns-in_err-since-clause-none c = λ _ moment is.
    let read : read_date_time c.args.text.now ≡ Some (c.in_ok-local.local, c.in_ok-local.nanos, c.in_ok-local.offset) = search rules in
    unread-told c.args.text.now c.in_ok-local.local c.in_ok-local.nanos c.in_ok-local.offset read
    (c.in_err-since.ensures.none refl) moment is

pub returns-clause-some : goal.returns-clause-some
returns-clause-some c =
    let read : read_date_time c.args.text.now ≡ Some (c.in_ok-local.local, c.in_ok-local.nanos, c.in_ok-local.offset) = search rules in
    moments-told c.args.text.now c.in_ok-local.local c.in_ok-local.nanos c.in_ok-local.offset read
    c.in_ok-since.since c.in_ok-since.ensures.some c.from_parts.result c.from_parts.ensures.some
