use Rattle.std.proofs.Common.{map, refl, string_bytes, subst}
use Rattle.clap.specs.{Words.{fault_of}, declared.error.kind.ErrorKind.TheVariants.{DisplayVersion}}
use Rattle.command_line.specs.{Line.{AsksIn, AsksWith, HasOptions, IsAsked}, Faults.{IsUnasked}}
use Rattle.command_line.specs.CommandLine.{AsksWhat, command_line, what_of, whats}
use Rattle.command_line.specs.declared.words.AskFault.TheVariants.{Version}
use Rattle.command_line.proofs.AskedLemmas.{asks-also}
use Rattle.command_line.proofs.mdnsmerge.read_told.Goals as goal

pub returns-in-Ok-clause-told : goal.returns-in-Ok-clause-told
returns-in-Ok-clause-told c =
    let what = c.in-Ok.asked.what in
    let Asks = AsksWith (AsksIn whats) HasOptions in
    let asked : IsAsked Asks command_line (map string_bytes c.args.words.now) c.in-Ok.asked = c.in-Ok.ensures.asked in
    let asks = asks-also Asks AsksWhat what (what_of what.0.0 what.0.1) (λ name rows is. (what.0, is.0, refl)) _ _ asked.1 in
    (asked.0, rw c.what_of.ensures asks)

pub returns-in-Err-Version-clause-untold : goal.returns-in-Err-Version-clause-untold
returns-in-Err-Version-clause-untold c =
    let Unasked = IsUnasked (fault_of command_line (map string_bytes c.args.words.now)) in
    let shown : Unasked c.in-Err-Version.field-0 = c.in-Err-Version.ensures.unasked in
    let version : Unasked (Version c.in-Err-Version.text) = subst Unasked c.in-Err-Version.field-0-is shown in
    (DisplayVersion, version, λ same. absurd cc)
