-- Command lines as tables, as clap's definitions write the commands that they make, and what clap's matches ask for.
use Rattle.std.specs.Prelude.{◌≡◌, ◌≢◌, ◌*◌, ◌⊎◌, ⊤, ◌++◌, ◌∷◌, Bool, List, map, Option, option_map}
use Rattle.std.specs.Prelude.{unwrap_or, Result, Ok, Err, Some, None, codes, pos, string_bytes, true, false, not, [], ◌&&◌, ◌||◌}
use Rattle.std.specs.{Str.Parse.{IsNumeral, digits_value, without_leading_plus}, List.{list_all}, Borrow.{Bor}, Str.{bytes_eq}}
use Rattle.clap.specs.{Lexer.{usize_max}, Simple.{new_shape}}
use Rattle.clap.specs.Words.{App, Row, Rule, Shape, Text, all_of, fault_of, is_simple_and_free, new_rule, first_of, one_of, subcommand_of}
use Rattle.clap.specs.declared.builder.action.ArgAction.TheVariants as action
use Rattle.clap.specs.declared.builder.value_parser.ValueParser.TheVariants as parser
use Rattle.mdns_capture.specs.{Limits.{second}, declared.moment.Moment.{Moment}}
use Rattle.mdns_browse.specs.declared.{report.Form.{Form}, report.Form.TheVariants.{Lines}, about.Subject.{Subject}}
use Rattle.command_line.specs.declared.line.{Takes.{Takes}, Flag.{Flag}, CommandTable.{CommandTable}, Subcommand.{Subcommand}}
use Rattle.command_line.specs.declared.{options.ConflictingFlags.{ConflictingFlags}, options.Options.{Options}, lists.Lists.{Lists}}
use Rattle.command_line.specs.{declared.words.Asked.{Asked}, FinalDot.{asked_words}}
use Rattle.mdns_browse.specs.declared.report.Form.TheVariants as form
use Rattle.command_line.specs.declared.line.Takes.TheVariants as takes

-- `--NAME`; or `--NAME SECONDS`, a number of 32 bits; or `--NAME MOMENT`, any text; or `--NAME WORD`, any but the empty one, repeatedly
abbrev pub flag_rule : Text → Takes → Rule
flag_rule name (takes.Nothing form) = record (new_rule name) { long = Some name; action = Some action.SetTrue }
flag_rule name takes.Switch = record (new_rule name) { long = Some name; action = Some action.SetTrue }
flag_rule name takes.Seconds = record (new_rule name) {
  long = Some name;
  value_names = 1;
  parser = Some (parser.Signed (pos 0) (pos 4294967295));
}
flag_rule name takes.Moment = record (new_rule name) { long = Some name; value_names = 1 }
flag_rule name takes.Words = record (new_rule name) {
  long = Some name;
  action = Some action.Append;
  value_names = 1;
  parser = Some parser.NonEmptyString;
}

-- `FILE...`, one or more
abbrev pub file_rule : Rule
file_rule = record (new_rule (codes "FILE")) {
  required = true;
  range = Some (record { start_inclusive = 1; end_inclusive = usize_max });
}

-- the names of subcommands, each with its flags
abbrev pub Flags : Type 0
Flags = List (Text × Takes)

abbrev pub rules_of : Flags → List Rule
rules_of = map (λ flag. flag_rule flag.0 flag.1)

-- a subcommand takes its flags, and files
abbrev pub shape_of : Text → Flags → Shape
shape_of name flags = record (new_shape name) { rules = rules_of flags ++ file_rule ∷ [] }

abbrev pub app_of_shape : Shape → App
app_of_shape shape = record { top = shape; subs = [] }

-- the subcommands of a command line: of each its name, its flags, and what it asks for
abbrev pub Table : Type 0 → Type 0
Table T = List (Text × Flags × T)

abbrev pub has_none : List Shape → Bool
has_none [] = true
has_none (x ∷ xs) = false

-- the program requires one of its subcommands, and has none that is named `help`
abbrev pub line_of : Text → Bool → List Shape → App
line_of name has_version subcommands = record {
  top = record (new_shape name) {
    is_leaf = has_none subcommands;
    subcommand_required = true;
    disable_help_subcommand = true;
    has_version = has_version;
  };
  subs = subcommands;
}

-- the command line of a table
abbrev pub shapes_of : {T : Type 0} → Table T → List Shape
shapes_of = map (λ row. shape_of row.0 row.1)

abbrev pub line_with : {T : Type 0} → Text → Bool → Table T → App
line_with name has_version table = line_of name has_version (shapes_of table)

-- the tables of the code
abbrev pub flags_of : List Flag → Flags
flags_of = map (λ flag. (flag.name.now, flag.takes))

abbrev pub table_of : {T : Type 0} → List (Subcommand T) → Table T
table_of = map (λ subcommand. (subcommand.name.now, flags_of subcommand.flags.now, subcommand.asks))

abbrev pub app_of_line : {T : Type 0} → CommandTable T → App
app_of_line line = line_with line.name.now line.has_version (table_of line.subcommands.now)

-- a flag of this name takes seconds
abbrev pub takes_seconds : Takes → Bool
takes_seconds takes.Seconds = true
takes_seconds other = false

abbrev pub is_counted : Flags → Text → Bool
is_counted [] name = false
is_counted (flag ∷ flags) name = (takes_seconds flag.1 && bytes_eq flag.0 name) || is_counted flags name

-- no flag is named as the files, and only one that takes seconds as one that does
abbrev pub is_sound : (Text → Bool) → Text → Takes → Bool
is_sound counted name takes.Seconds = not (bytes_eq name (codes "FILE"))
is_sound counted name other = not (bytes_eq name (codes "FILE")) && not (counted name)

abbrev pub are_sound : Flags → Bool
are_sound flags = list_all (λ flag. is_sound (is_counted flags) flag.0 flag.1) flags

-- the command line is one of which clap's definitions tell the faults and the matches
abbrev pub is_readable : {T : Type 0} → CommandTable T → Bool
is_readable line = is_simple_and_free (app_of_line line)
    && list_all (λ row. are_sound row.1) (table_of line.subcommands.now)

-- ---- what the matches ask for

-- the moment is that of an option's value in whole seconds; none without a value
abbrev pub IsMomentOf : Option Text → Option Moment → Type 0
IsMomentOf None None = ⊤
IsMomentOf None (Some moment) = ⊥
IsMomentOf (Some seconds) None = ⊥
IsMomentOf (Some seconds) (Some moment) =
    IsNumeral 10 (without_leading_plus seconds)
    × (moment.nanos ≡ digits_value 10 (without_leading_plus seconds) * second)

-- the moment of the first flag that takes seconds; none where no flag does
abbrev pub SecondsBy : Takes → Type 0 → Type 0 → Type 0
SecondsBy takes.Seconds Here Rest = Here
SecondsBy other Here Rest = Rest

abbrev pub HasSeconds : Flags → List Row → Option Moment → Type 0
HasSeconds [] rows at = at ≡ None
HasSeconds (flag ∷ flags) rows at = SecondsBy flag.1 (IsMomentOf (one_of flag.0 rows) at) (HasSeconds flags rows at)

-- the text that is given for an option
abbrev pub text_of : Option (Bor Text) → Option Text
text_of = option_map (λ t. t.now)

abbrev pub HasText : Text → List Row → Option (Bor Text) → Type 0
HasText name rows text = text_of text ≡ first_of name rows

-- a flag is given, or not: clap reads `true` for one that is, and `false` for one that isn't
abbrev pub IsFlag : Option Text → Bool → Type 0
IsFlag flag true = (flag ≢ None) × (flag ≢ Some (codes "false"))
IsFlag flag false = flag ≢ Some (codes "true")

-- the form that a flag with this value asks for; none where it isn't given, or takes a value
abbrev pub AsksForm : Takes → Option Text → Option Form → Type 0
AsksForm (takes.Nothing own) flag (Some form) = IsFlag flag true × (form ≡ own)
AsksForm (takes.Nothing own) flag None = IsFlag flag false
AsksForm other value (Some form) = ⊥
AsksForm other value None = ⊤

-- no given flag asks for a form
abbrev pub HasNoForm : Flags → List Row → Type 0
HasNoForm [] rows = ⊤
HasNoForm (flag ∷ flags) rows = AsksForm flag.1 (one_of flag.0 rows) None × HasNoForm flags rows

-- the form of the one given flag that asks for one, or else lines of words
abbrev pub HasForm : Flags → List Row → Form → Type 0
HasForm [] rows form = form ≡ Lines
HasForm (flag ∷ flags) rows form = (AsksForm flag.1 (one_of flag.0 rows) (Some form) × HasNoForm flags rows)
    ⊎ (AsksForm flag.1 (one_of flag.0 rows) None × HasForm flags rows form)

-- a given flag of this name asks for a form
abbrev pub GivesForm : Flags → List Row → Text → Type 0
GivesForm [] rows name = ⊥
GivesForm (flag ∷ flags) rows name =
    ((name ≡ flag.0) × ((form : Form) × AsksForm flag.1 (one_of flag.0 rows) (Some form))) ⊎ GivesForm flags rows name

-- two given flags of these names ask for forms
abbrev pub GivesForms : Flags → List Row → ConflictingFlags → Type 0
GivesForms [] rows both = ⊥
GivesForms (flag ∷ flags) rows both =
    ((both.one.now ≡ flag.0) × ((form : Form) × AsksForm flag.1 (one_of flag.0 rows) (Some form)) × GivesForm flags rows both.other.now)
    ⊎ GivesForms flags rows both

-- the form that the flags ask for, or two of them that ask for forms
abbrev pub HasOneForm : Flags → List Row → Result Form ConflictingFlags → Type 0
HasOneForm flags rows (Ok form) = HasForm flags rows form
HasOneForm flags rows (Err both) = GivesForms flags rows both

-- the flags that ask for the forms that every output has
abbrev pub common_forms : Flags
common_forms = (codes "json", takes.Nothing form.Json) ∷ []

-- those, and the flag of the form for people
abbrev pub people_forms : Flags
people_forms = common_forms ++ (codes "pretty", takes.Nothing form.Pretty) ∷ []

-- all flags that ask for a form: those, and the flag of the form for spreadsheets
abbrev pub form_flags : Flags
form_flags = people_forms ++ (codes "csv", takes.Nothing form.Csv) ∷ []

-- the words of all uses of an option, in their order
abbrev pub words_of : Text → List Row → List Text
words_of name rows = unwrap_or (all_of name rows) []

abbrev pub texts_of : List Subject → List Text
texts_of = map (λ subject. string_bytes subject.text)

-- the service types of printers: IPP, IPP over TLS, LPD, and raw data to port 9100
abbrev pub printer_types : List Text
printer_types = codes "_ipp._tcp" ∷ codes "_ipps._tcp" ∷ codes "_printer._tcp" ∷ codes "_pdl-datastream._tcp" ∷ []

-- these words, where `--printers` is given, and else none
abbrev pub HasPrinters : List Row → List Text → Type 0
HasPrinters rows words = (IsFlag (one_of (codes "printers") rows) true × (words ≡ printer_types))
    ⊎ (IsFlag (one_of (codes "printers") rows) false × (words ≡ []))

-- The words of the options that can be repeated. Those of `--printers` are added to those of `--about`, also without a final dot.
pub record HasLists (rows : List Row) (lists : Lists) : Type 0 where
  pub printers : List Text
  pub printers_are : HasPrinters rows printers
  pub about : texts_of lists.about ≡ asked_words (words_of (codes "about") rows) ++ printers
  pub listeners : map string_bytes lists.listeners.items ≡ words_of (codes "listener") rows

-- the matches of a subcommand give these options
abbrev pub HasOptions : List Row → Options → Type 0
HasOptions rows options = HasText (codes "at") rows options.at
    × HasText (codes "before") rows options.before
    × HasText (codes "since") rows options.since
    × HasText (codes "until") rows options.until
    × HasOneForm form_flags rows options.form
    × HasLists rows options.lists
    × IsFlag (one_of (codes "skip-unusable") rows) options.skip_unusable
    × IsFlag (one_of (codes "services") rows) options.services

-- a subcommand of the table has this name and asks for this, with the moment that is given in seconds
abbrev pub AsksIn : {T : Type 0} → Table T → Text → List Row → T × Option Moment → Type 0
AsksIn [] name rows asked = ⊥
AsksIn (row ∷ table) name rows asked =
    ((name ≡ row.0) × (asked.0 ≡ row.2) × HasSeconds row.1 rows asked.1) ⊎ AsksIn table name rows asked

-- a subcommand with these matches asks for the first of two, and its matches give the second
abbrev pub AsksWith : {A B : Type 0} → (Text → List Row → A → Type 0) → (List Row → B → Type 0) → Text → List Row → A × B → Type 0
AsksWith Asks Gives name rows asked = Asks name rows asked.0 × Gives rows asked.1

-- the files of a subcommand
abbrev pub AreFiles : List Row → List Text → Type 0
AreFiles rows names = all_of (codes "FILE") rows ≡ Some names

abbrev pub files_in : List Row → List Text
files_in rows = words_of (codes "FILE") rows

-- the subcommand that was matched asks for this, of these files
abbrev pub Matches : {A : Type 0} → (Text → List Row → A → Type 0) → Option (Text × List Row) → A → List Text → Type 0
Matches Asks None what names = ⊥
Matches Asks (Some matched) what names = Asks matched.0 matched.1 what × AreFiles matched.1 names

-- clap finds no fault in the words, and the matches ask for this, of these files
abbrev pub IsAsked : {A : Type 0} → (Text → List Row → A → Type 0) → App → List Text → Asked A → Type 0
IsAsked Asks line words asked = (fault_of line words ≡ [])
    × Matches Asks (subcommand_of line words) asked.what (map string_bytes asked.names.items)
