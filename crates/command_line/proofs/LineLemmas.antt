-- Lemmas on command lines as tables.
use Rattle.std.proofs.{lemmas.Grind.{common_steps}, Common.{arith, ◌≡◌, ◌&&◌, not, true, false, Bool, [], ◌∷◌, ◌++◌}}
use Rattle.clap.specs.{Kinds.{HasKind, Kinds}, Values.{kind_of}, Words.{Text, with_subcommand}, declared.error.Error.{Error}}
use Rattle.std.proofs.lemmas.List.{map-append}
use Rattle.command_line.specs.{Faults.{IsFaultOf, IsUnasked}, Line.{Flags, Table, line_with, shape_of}, declared.words.AskFault.{AskFault}}

-- a plain command has no global argument, which is the third of what makes it plain
pub plain-is-local : (a b global rest : Bool) → (a && (b && (not global && rest))) ≡ true → global ≡ false
plain-is-local a b global rest is = grind arith

-- one more subcommand
pub line-more : {T : Type 0} (name : Text) (has_version : Bool) (table : Table T) (more : Text × Flags × T)
    → with_subcommand (line_with name has_version table) (shape_of more.0 more.1) ≡ line_with name has_version (table ++ more ∷ [])
line-more name has_version table more = grind (arith, common_steps, map-append)

-- ---- the faults

pub unasked-by-kind : (faults : Kinds) (e : Error) (fault : AskFault) → HasKind faults e → IsFaultOf (kind_of e) fault
    → IsUnasked faults fault
unasked-by-kind faults e fault found is = grind arith
