use Rattle.std.proofs.Common.{◌≡◌, ◌∙◌, [], Err, List, ap, codes, inl, inr, map, refl, rules, string_bytes, subst}
use Rattle.std.proofs.lemmas.Result.{err_from_is_err_and}
use Rattle.clap.specs.Words.{Text, fault_of, subcommand_of}
use Rattle.command_line.specs.{CommandLine.{AsksJob, GivesAsOf, GivesScope, command_line_with_past, job_of, tasks}}
use Rattle.command_line.specs.Line.{AsksIn, AsksWith, IsAsked, Matches, text_of}
use Rattle.command_line.specs.OptionFault.{IsUnmade, MakesNoAsOf, MakesNoInquiry, MakesNoTask}
use Rattle.command_line.specs.declared.words.AskFault.TheVariants.{Words}
use Rattle.command_line.proofs.AskedLemmas.{asks-also, task-fits, unmade, unmade-also}
use Rattle.command_line.proofs.mdnsmerge.asked.Goals as goal

pub returns-in_err-asked-clause-unasked : goal.returns-in_err-asked-clause-unasked
returns-in_err-asked-clause-unasked c =
    let p = err_from_is_err_and c.from_residual.result c.from_residual.ensures.1 in
    let given = map string_bytes c.as_slice.result.now in
    let same : given ≡ map string_bytes c.args.words.items = search rules in
    let fault = c.in_err-asked.field-0.0 in
    let unmade_is : IsUnmade MakesNoInquiry (codes "mdnsmerge") command_line_with_past given fault = c.in_err-asked.ensures.unasked in
    rw (p.1 ∙ ap Err p.2) (subst (λ (words : List Text). IsUnmade MakesNoTask (codes "mdnsmerge") command_line_with_past words fault) same
    (unmade-also MakesNoInquiry MakesNoTask (λ options names option_fault makes. inl makes) (codes "mdnsmerge") command_line_with_past given
    fault unmade_is))

pub returns-in-Ok-clause-asked : goal.returns-in-Ok-clause-asked
returns-in-Ok-clause-asked c =
    let Asks = AsksWith (AsksIn tasks) GivesScope in
    let given = map string_bytes c.as_slice.result.now in
    let same : given ≡ map string_bytes c.args.words.items = search rules in
    let what = c.in_ok-asked.asked.what in
    let names = map string_bytes c.in_ok-asked.asked.names.items in
    let asked : IsAsked Asks command_line_with_past given c.in_ok-asked.asked = c.in_ok-asked.ensures.asked in
    let gives : GivesAsOf (text_of what.1.options.at) (text_of what.1.options.before) c.in-Ok.as_of = search rules in
    let job = job_of what.0.0 c.in-Ok.as_of what.1 in
    let asks = asks-also Asks AsksJob what job (λ name rows is. (what, is, (c.in-Ok.as_of, gives, refl))) _ _ asked.1 in
    subst (λ (words : List Text). (fault_of command_line_with_past words ≡ [])
    × Matches AsksJob (subcommand_of command_line_with_past words) c.job_of.result names) same (asked.0, rw c.job_of.ensures asks)

pub returns-in-Ok-clause-fit : goal.returns-in-Ok-clause-fit
returns-in-Ok-clause-fit c =
    let what = c.in_ok-asked.asked.what in
    let names = map string_bytes c.in_ok-asked.asked.names.items in
    rw c.job_of.ensures (task-fits what.0.0 c.in-Ok.as_of what.1 names c.in_ok-asked.ensures.fit)

pub returns-clause-unasked : goal.returns-clause-unasked
returns-clause-unasked c =
    let Asks = AsksWith (AsksIn tasks) GivesScope in
    let given = map string_bytes c.as_slice.result.now in
    let same : given ≡ map string_bytes c.args.words.items = search rules in
    let what = c.in_ok-asked.asked.what in
    let names = map string_bytes c.in_ok-asked.asked.names.items in
    let asked : IsAsked Asks command_line_with_past given c.in_ok-asked.asked = c.in_ok-asked.ensures.asked in
    let none : MakesNoAsOf what.1.options c.in-Err.option_fault = search rules in
    subst (λ (words : List Text). IsUnmade MakesNoTask (codes "mdnsmerge") command_line_with_past words (Words c.refusal_of.result)) same
    (unmade MakesNoTask Asks (codes "mdnsmerge") command_line_with_past given what what.1.options names c.in-Err.option_fault
    c.refusal_of.result asked.0 asked.1 (λ name rows is. is.1.0) (inr none) c.refusal_of.ensures)
