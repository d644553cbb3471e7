use Rattle.std.proofs.Common.{◌≡◌, ◌∙◌, ap, refl, sym, subst, map, string_bytes, List, Option}
use Rattle.clap.proofs.WalkLemmas.{both}
use Rattle.clap.specs.Kinds.{HasKind}
use Rattle.clap.specs.Words.{App, Kinds, Row, Text, app_of, fault_of, found_of, is_simple, is_simple_and_free, rows_of, subcommand_of}
use Rattle.command_line.proofs.{LineLemmas.{unasked-by-kind}, AskedLemmas.{asks-also}, ReadLemmas.{faultless, good-asks, good-files}}
use Rattle.command_line.specs.Line.{AsksIn, AsksWith, HasOptions, Matches, app_of_line, table_of}
use Rattle.command_line.proofs.read.read.Goals as goal

pub returns-in-Err-clause-unasked : goal.returns-in-Err-clause-unasked
returns-in-Err-clause-unasked g c =
    let line : app_of c.in-Ok.command ≡ app_of_line c.args.line.now = c.in-Ok.ensures in
    let words = map string_bytes c.args.words.now in
    let free = (both _ _ c.requires).0 in
    let kinds = c.in-Err.ensures.kinds (ap is_simple_and_free line ∙ free) in
    unasked-by-kind _ c.in-Err.error c.fault_of.result
    (subst (λ (faults : Kinds). HasKind faults c.in-Err.error) (ap (λ (a : App). fault_of a words) line) kinds) c.fault_of.ensures

pub unreachable-requires : goal.unreachable-requires
unreachable-requires g c =
    let table = table_of c.args.line.now.subcommands.now in
    let line : app_of c.in-Ok.command ≡ app_of_line c.args.line.now = c.in-Ok.ensures in
    let words = map string_bytes c.args.words.now in
    let free = (both _ _ c.requires).0 in
    let simple = ap is_simple line ∙ (both _ _ free).0 in
    let matched = (c.in-Ok-try_get_matches_from.ensures.matches simple).1 ∙ ap (λ (a : App). subcommand_of a words) line in
    let none = sym (ap (λ (a : App). fault_of a words) line) ∙ c.in-Ok-try_get_matches_from.ensures.kinds (ap is_simple_and_free line ∙ free) in
    let good = faultless c.args.line.now c.requires (map string_bytes c.args.words.now) none in
    good-asks table _ good (λ what names asks. c.in_default-matched.ensures.none refl what names
    (subst (λ (m : Option (Text × List Row)). Matches (AsksIn table) m what names) (sym matched) asks))

pub returns-clause-asked : goal.returns-clause-asked
returns-clause-asked g c =
    let table = table_of c.args.line.now.subcommands.now in
    let line : app_of c.in-Ok.command ≡ app_of_line c.args.line.now = c.in-Ok.ensures in
    let words = map string_bytes c.args.words.now in
    let free = (both _ _ c.requires).0 in
    let simple = ap is_simple line ∙ (both _ _ free).0 in
    let matched = (c.in-Ok-try_get_matches_from.ensures.matches simple).1 ∙ ap (λ (a : App). subcommand_of a words) line in
    let none = sym (ap (λ (a : App). fault_of a words) line) ∙ c.in-Ok-try_get_matches_from.ensures.kinds (ap is_simple_and_free line ∙ free) in
    let Asks = AsksWith (AsksIn table) (λ (rows own : List Row). own ≡ rows) in
    let own = rows_of (found_of c.in-Some.given.now) in
    let asks =
    subst (λ (m : Option (Text × List Row)). Matches Asks m (c.in-Some.what, own) (map (λ file. file.now) c.in-Some.files.now)) matched
    c.in-Some.ensures.some in
    let reached = subcommand_of (app_of_line c.args.line.now) words in
    let all = subst (λ (names : List Text). Matches Asks reached (c.in-Some.what, own) names) (sym c.in_ok-names.ensures) asks in
    let options : HasOptions own c.in_ok-options.options = c.in_ok-options.ensures in (
      none,
      asks-also Asks (AsksWith (AsksIn table) HasOptions) (c.in-Some.what, own) (c.in-Some.what, c.in_ok-options.options)
          (λ name rows is. (is.0, subst (λ (rs : List Row). HasOptions rs c.in_ok-options.options) is.1 options)) _ _ all,
    )

pub returns-clause-files : goal.returns-clause-files
returns-clause-files g c empty =
    let table = table_of c.args.line.now.subcommands.now in
    let asked = returns-clause-asked g c in
    let good = faultless c.args.line.now c.requires (map string_bytes c.args.words.now) asked.0 in
    good-files (AsksWith (AsksIn table) HasOptions) table _ good _ _ asked.1
    (ap (map string_bytes) empty)
