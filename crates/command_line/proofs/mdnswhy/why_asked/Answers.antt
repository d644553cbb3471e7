use Rattle.std.proofs.Common.{◌≡◌, [], List, codes, map, refl, rules, string_bytes, subst}
use Rattle.clap.specs.Words.{Text, fault_of, subcommand_of}
use Rattle.command_line.specs.{CommandLine.{AsksWhy, GivesScope, inquiries, why_line, why_of}, Line.{AsksIn, AsksWith, IsAsked, Matches}}
use Rattle.command_line.specs.{declared.words.WhyAsks.{WhyAsks}, OptionFault.{IsUnmade, MakesNoInquiry}}
use Rattle.command_line.proofs.AskedLemmas.{asks-also}
use Rattle.command_line.proofs.mdnswhy.why_asked.Goals as goal

pub returns-in-Ok-clause-asked : goal.returns-in-Ok-clause-asked
returns-in-Ok-clause-asked c =
    let Asks = AsksWith (AsksIn inquiries) GivesScope in
    let given = map string_bytes c.as_slice.result.now in
    let same : given ≡ map string_bytes c.args.words.items = search rules in
    let what = c.in-Ok.asked.what in
    let names = map string_bytes c.in-Ok.asked.names.items in
    let asked : IsAsked Asks why_line given c.in-Ok.asked = c.in-Ok.ensures.asked in
    let asks = asks-also Asks AsksWhy what (why_of what.0.0 what.1) (λ name rows is. (what, is, refl)) _ _ asked.1 in
    let made : WhyAsks = record {
      inquiry = c.in_form.result;
      lists = what.1.options.lists;
      window = what.1.window;
      skip_unusable = what.1.options.skip_unusable;
    } in
    subst (λ (words : List Text). (fault_of why_line words ≡ []) × Matches AsksWhy (subcommand_of why_line words) made names) same
    (asked.0, rw c.in_form.ensures asks)

pub returns-clause-unasked : goal.returns-clause-unasked
returns-clause-unasked c =
    let same : map string_bytes c.as_slice.result.now ≡ map string_bytes c.args.words.items = search rules in
    subst (λ (words : List Text). IsUnmade MakesNoInquiry (codes "mdnswhy") why_line words c.in-Err.fault) same c.in-Err.ensures.unasked
