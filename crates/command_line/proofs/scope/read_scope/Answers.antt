use Rattle.std.proofs.Common.{rules, map, string_bytes}
use Rattle.command_line.specs.{declared.scope.Scope.{Scope}, CommandLine.{GivesScope, MakesFormWindow}, OptionFault.{MakesNoInquiry}}
use Rattle.command_line.specs.Line.{AsksIn, AsksWith, HasOptions, IsAsked, app_of_line, table_of}
use Rattle.command_line.proofs.AskedLemmas.{asks-also, unmade}
use Rattle.command_line.proofs.scope.read_scope.Goals as goal

pub returns-in-Ok-clause-asked : goal.returns-in-Ok-clause-asked
returns-in-Ok-clause-asked g c =
    let Asks = AsksIn (table_of c.args.line.now.subcommands.now) in
    let what = c.in_ok-asked.asked.what in
    let asked : IsAsked (AsksWith Asks HasOptions) (app_of_line c.args.line.now) (map string_bytes c.args.words.now) c.in_ok-asked.asked =
    c.in_ok-asked.ensures.asked in
    let scope : Scope = record { form = c.in-Ok.form; window = c.in-Ok.window; options = what.1 } in
    let makes : MakesFormWindow what.1 (c.in-Ok.form, c.in-Ok.window) = search rules in
    let also = asks-also (AsksWith Asks HasOptions) (AsksWith Asks GivesScope) what (what.0, scope) in
    (asked.0, also (λ name rows is. (is.0, (is.1, makes))) _ _ asked.1)

pub returns-clause-unasked : goal.returns-clause-unasked
returns-clause-unasked g c =
    let Asks = AsksIn (table_of c.args.line.now.subcommands.now) in
    let line = c.args.line.now in
    let words = map string_bytes c.args.words.now in
    let what = c.in_ok-asked.asked.what in
    let names = map string_bytes c.in_ok-asked.asked.names.items in
    let asked : IsAsked (AsksWith Asks HasOptions) (app_of_line line) words c.in_ok-asked.asked = c.in_ok-asked.ensures.asked in
    let none : MakesNoInquiry what.1 names c.in-Err.option_fault = search rules in
    unmade MakesNoInquiry (AsksWith Asks HasOptions) line.name.now (app_of_line line) words what what.1 names c.in-Err.option_fault
    c.refusal_of.result asked.0 asked.1 (λ name rows is. is.1) none c.refusal_of.ensures
