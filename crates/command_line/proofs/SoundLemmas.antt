-- Words in which clap finds no fault leave sound rows: seconds that are numbers, and a file at least.
use Rattle.std.proofs.Common.{arith, ◌≡◌, ◌≢◌, ◌++◌, ◌&&◌, ◌||◌, refl, subst, sym, not, true, false, codes, Bool, List, [], ◌∷◌}
use Rattle.std.proofs.lemmas.Slice.Eq.{bytes_eq-Decides}
use Rattle.std.specs.{Prelude.{pos}, List.{list_all}, Str.{bytes_eq}}
use Rattle.clap.proofs.WalkLemmas.{both}
use Rattle.clap.specs.{Kinds.{values_kinds}, Simple.{filled, filled_from, help_rule, with_index}, ValueTests.{accepts}, Walk.{Row, Rule}}
use Rattle.clap.specs.{Walk.{Text, at_row, more_values, with_values, without}, declared.builder.value_parser.Reading.{Reading}}
use Rattle.clap.specs.{declared.builder.value_parser.ValueParser.{ValueParser}, declared.parser.matches.ValueSource.{ValueSource}}
use Rattle.command_line.specs.Line.{Flags, file_rule, flag_rule, is_counted, is_sound, rules_of, takes_seconds}
use Rattle.command_line.specs.declared.line.Takes.{Takes}
use Rattle.command_line.proofs.WalkKeepsLemmas.{Each, Keeps, KeepsDefault, each-append, split, undefaulted}
use Rattle.clap.specs.declared.builder.value_parser.Reading.TheVariants as reading
use Rattle.clap.specs.declared.builder.value_parser.ValueParser.TheVariants as parser
use Rattle.command_line.specs.declared.line.Takes.TheVariants as takes

-- ---- the rows of seconds and of files

abbrev pub number : ValueParser
number = parser.Signed (pos 0) (pos 4294967295)

abbrev pub AreNumbers : List Text → Type 0
AreNumbers = Each (λ v. accepts false number v ≡ true)

-- the values of a flag that takes seconds read as numbers of 32 bits, and there is a file at least
abbrev pub IsSound : (Text → Bool) → Text → Reading → List Text → Type 0
IsSound counted id how values =
    (counted id ≡ true → (how ≡ reading.WithoutMinus) × AreNumbers values) × (bytes_eq id (codes "FILE") ≡ true → values ≢ [])

abbrev pub IsSoundRow : (Text → Bool) → Row → Type 0
IsSoundRow counted r = IsSound counted r.id r.reading r.values

abbrev pub AreSound : (Text → Bool) → List Row → Type 0
AreSound counted = Each (IsSoundRow counted)

in-row : (P : Row → Type 0) (id : Text) (change : Row → List Row) (missing rows : List Row)
    → ((r : Row) → bytes_eq r.id id ≡ true → P r → Each P (change r)) → Each P missing → Each P rows
    → Each P (at_row id change missing rows)
in-row P id change missing [] changes gives h = gives
in-row P id change missing (r ∷ rows) changes gives h = grind (arith, each-append, in-row P id change missing rows changes gives h.1)

accepted : (values : List Text) → values_kinds false number values ≡ [] → Each (λ v. accepts false number v ≡ true) values
accepted [] none = tt
accepted (v ∷ values) none = grind (arith, split, accepted values)

-- a row of this name may hold the values, and may add them to those that it holds
abbrev Adds : (Text → Bool) → Text → Reading → List Text → Type 0
Adds counted id how values =
    IsSound counted id how values × ((r : Reading) (old : List Text) → IsSound counted id r old → IsSound counted id r (old ++ values))

values-keep : (counted : Text → Bool) (id : Text) (how : Reading) (s : ValueSource) (values : List Text) (rows : List Row)
    → Adds counted id how values → AreSound counted rows → AreSound counted (with_values id how s values rows)
values-keep counted id how s values rows adds sound =
    in-row (IsSoundRow counted) id (more_values s values) _ rows (λ r same is. (more r ((bytes_eq-Decides r.id id).0 same) is, tt))
    (adds.0, tt) sound
  where
    more : (r : Row) → r.id ≡ id → IsSoundRow counted r → IsSound counted r.id r.reading (r.values ++ values)
    more r same is = subst (λ (name : Text). IsSound counted name r.reading (r.values ++ values)) (sym same)
        (adds.1 r.reading r.values (subst (λ (name : Text). IsSound counted name r.reading r.values) same is))

without-keeps : (counted : Text → Bool) (id : Text) (rows : List Row) → AreSound counted rows → AreSound counted (without id rows)
without-keeps counted id rows sound = in-row (IsSoundRow counted) id (λ _. []) [] rows (λ r same is. tt) tt sound

no : (b : Bool) → not b ≡ true → b ≡ true → ⊥
no b is_not is = grind arith

not-none : (xs : List Text) (y : Text) (ys : List Text) → xs ++ y ∷ ys ≢ []
not-none [] y ys none = absurd cc
not-none (x ∷ xs) y ys none = absurd cc

-- ---- the arguments, as clap builds them

abbrev flag_built : Text → Takes → Rule
flag_built name takes = with_index 1 (filled (flag_rule name takes))

abbrev file_built : Rule
file_built = with_index 1 (filled file_rule)

abbrev help_built : Rule
help_built = with_index 2 (filled help_rule)

-- any values may be added to a row that is neither of seconds nor of files
others-add : (counted : Text → Bool) (name : Text) → (not (bytes_eq name (codes "FILE")) && not (counted name)) ≡ true
    → (how : Reading) (values : List Text) → Adds counted name how values
others-add counted name sound how values = grind (arith, both, no)

-- a use of the argument without a fault keeps the rows sound, and so does its default
abbrev pub KeepsSound : (Text → Bool) → Rule → Type 0
KeepsSound counted a = Keeps (AreSound counted) false a × KeepsDefault (AreSound counted) a

flag-keeps : (counted : Text → Bool) (name : Text) (takes : Takes) → is_sound counted name takes ≡ true
    → KeepsSound counted (flag_built name takes)
flag-keeps counted name takes sound = grind (arith, values-keep, others-add, without-keeps, undefaulted, split, accepted, no, each-append)

file-keeps : (counted : Text → Bool) → counted (codes "FILE") ≡ false → KeepsSound counted file_built
file-keeps counted other = grind (arith, undefaulted, values-keep, not-none)

help-keeps : (counted : Text → Bool) → KeepsSound counted help_built
help-keeps counted = (λ values rows none rows_are. rows_are, undefaulted (AreSound counted) help_built refl)

pub flags-keep : (counted : Text → Bool) → counted (codes "FILE") ≡ false → (flags : Flags)
    → list_all (λ flag. is_sound counted flag.0 flag.1) flags ≡ true
    → Each (KeepsSound counted) (filled_from 1 ((rules_of flags ++ file_rule ∷ []) ++ help_rule ∷ []))
flags-keep counted other [] sound = (file-keeps counted other, (help-keeps counted, tt))
flags-keep counted other (flag ∷ flags) sound = grind (arith, both, flag-keeps, flags-keep counted other flags)

-- no file is named as a flag that takes seconds
pub file-other : (all flags : Flags) → list_all (λ flag. is_sound (is_counted all) flag.0 flag.1) flags ≡ true
    → is_counted flags (codes "FILE") ≡ false
file-other all [] sound = refl
file-other all (flag ∷ flags) sound = grind (arith, both, file-other all flags)

-- each flag that takes seconds has the name of one
own-counted : (name : Text) (flags : Flags) → ((takes_seconds takes.Seconds && bytes_eq name name) || is_counted flags name) ≡ true
own-counted name flags = rw ((bytes_eq-Decides name name).1 refl) refl

abbrev pub AreCounted : (Text → Bool) → Flags → Type 0
AreCounted counted = Each (λ flag. takes_seconds flag.1 ≡ true → counted flag.0 ≡ true)

counted-more : (flag : Text × Takes) (own flags : Flags) → AreCounted (is_counted own) flags → AreCounted (is_counted (flag ∷ own)) flags
counted-more flag own [] are = tt
counted-more flag own (x ∷ flags) are = grind (arith, counted-more flag own flags are.1)

pub all-counted : (flags : Flags) → AreCounted (is_counted flags) flags
all-counted [] = tt
all-counted (flag ∷ flags) = grind (arith, counted-more, own-counted, all-counted flags)
