-- Where clap finds no fault in the words of a command line, its matches ask for something, of one file or more.
use Rattle.std.proofs.Common.{rules, ◌≡◌, ◌≢◌, ◌++◌, ◌*◌, ◌&&◌, refl, subst, sym, inl, inr, not, cond, arith, true, false, codes, is_some}
use Rattle.std.proofs.Common.{Bool, ℕ, List, [], ◌∷◌, Option, Some, None, Result, Err, IfSome, map, option_map}
use Rattle.std.proofs.lemmas.Slice.Eq.{bytes_eq-Decides}
use Rattle.std.specs.{Prelude.{find, slice_get, option_and_then, ⊤, IsSomeAnd}, List.{list_all, list_any}}
use Rattle.std.specs.{Option.{option_map_or}, Str.{bytes_eq}, Str.Parse.{ParsesUnsigned, digits_value, without_leading_plus}}
use Rattle.clap.proofs.{CallerReads.{signed_reads}, ValueTestLemmas.{accepts-Accepts}, WalkLemmas.{both}}
use Rattle.clap.specs.{Facts.{explicit_source}, Faults.{check_fault, defaults_fault, entered_fault, fault_of, level_fault, settle_fault}}
use Rattle.clap.specs.{Faults.{walk_fault}, Lexer.{without_minus}, Simple.{App, Shape, argument_words, built, built_leaf, entered}}
use Rattle.clap.specs.Simple.{filled_from, help_rule, inherited, marked_built, names_of, on_top, rows_at, subcommand_of, with_leaf_noted}
use Rattle.clap.specs.{Takes.{is_given}, Values.{read_as}, ValueTests.{accepts}, Walk.{Row, Text, finished, nothing_held}}
use Rattle.clap.specs.Walk.{one_of, row_text, rows_after, settled, stop_after, walk, walk_from}
use Rattle.clap.specs.declared.builder.value_parser.Reading.{Reading}
use Rattle.mdns_capture.specs.declared.moment.Moment.{Moment}
use Rattle.command_line.specs.Line.{AreFiles, AsksIn, Flags, HasSeconds, IsMomentOf, Matches, SecondsBy, Table, app_of_line, are_sound}
use Rattle.command_line.specs.Line.{file_rule, is_counted, is_readable, line_of, rules_of, shape_of, shapes_of, table_of, takes_seconds}
use Rattle.command_line.specs.declared.line.{CommandTable.{CommandTable}, Takes.{Takes}}
use Rattle.command_line.proofs.WalkKeepsLemmas.{Each, each-find, in-level, split}
use Rattle.command_line.proofs.SoundLemmas.{AreCounted, AreSound, all-counted, file-other, flags-keep, number}
use Rattle.clap.specs.declared.builder.value_parser.Reading.TheVariants as reading
use Rattle.clap.specs.declared.error.kind.ErrorKind.TheVariants as kind
use Rattle.command_line.specs.declared.line.Takes.TheVariants as takes

-- ---- the matches

-- some moment, or none, is that of the option: its value can be read
abbrev HasMoment : Option Text → Type 0
HasMoment o = ((at : Option Moment) → IsMomentOf o at → ⊥) → ⊥

-- a row of numbers has a moment
number-told : (v : Text) → accepts false number v ≡ true → ((at : Option Moment) → IsMomentOf (Some (without_minus v)) at → ⊥) → ⊥
number-told v is nothing =
    let failed : Result ℕ ⊤ = Err tt in
    let unread : ParsesUnsigned 32 10 (without_minus v) failed =
    λ h. nothing (Some (record {
      nanos = digits_value 10 (without_leading_plus (without_minus v)) * 1000000000;
      limit = omega (arith, h.1);
    })) (h.0, refl) in
    let read = signed_reads ⊤ (λ u x. ParsesUnsigned 32 10 u x) 32 0 4294967295 v None (tt, unread) (λ u x g. g) (omega arith)
    (accepts-Accepts false number v is) in
    let clash : None ≡ Some read.0 = read.1 in
    absurd cc

values-told : (how : Reading) (values : List Text) → how ≡ reading.WithoutMinus → Each (λ v. accepts false number v ≡ true) values
    → ((at : Option Moment) → IsMomentOf (option_map (read_as how) (slice_get values 0)) at → ⊥) → ⊥
values-told how [] is numbers nothing = nothing None tt
values-told how (v ∷ values) is numbers nothing =
    number-told v numbers.0 (subst (λ h. (at : Option Moment) → IsMomentOf (Some (read_as h v)) at → ⊥) is nothing)

rows-told : (counted : Text → Bool) (id : Text) → counted id ≡ true → (rows : List Row) → AreSound counted rows → HasMoment (one_of id rows)
rows-told counted id is_counted [] sound nothing = nothing None tt
rows-told counted id is_counted (r ∷ rows) sound nothing = go (bytes_eq r.id id) refl (rows-told counted id is_counted rows sound.1) nothing
  where
    go : (b : Bool) → bytes_eq r.id id ≡ b → HasMoment (one_of id rows)
        → ((at : Option Moment) → IsMomentOf (option_and_then row_text (cond b (Some r) (find (λ x. bytes_eq x.id id) rows))) at → ⊥) → ⊥
    go true same rest none =
        let here = subst (λ (name : Text). counted name ≡ true) (sym ((bytes_eq-Decides r.id id).0 same)) is_counted in
        let numbers = sound.0.0 here in
        values-told r.reading r.values numbers.0 numbers.1 none
    go false other rest none = rest none

files-some : (counted : Text → Bool) (rows : List Row) (names : List Text) → AreSound counted rows → AreFiles rows names → names ≢ []
files-some counted [] names files is = absurd cc
files-some counted (r ∷ rows) names files is = grind (arith, option_map, files-some counted rows names files.1)

files-given : (rows : List Row) → is_given (codes "FILE") rows ≡ true → (names : List Text) × AreFiles rows names
files-given rows is = go (find (λ r. bytes_eq r.id (codes "FILE")) rows) is
  where
    go : (o : Option Row) → option_map_or (λ r. explicit_source r.source) o false ≡ true
        → (names : List Text) × (option_map (λ (r : Row). r.values) o ≡ Some names)
    go None e = absurd cc
    go (Some r) e = (r.values, refl)

-- without a fault a file is given
unwanted : (wants : Bool) → cond wants (kind.MissingRequiredArgument ∷ []) [] ≡ [] → wants ≡ false
unwanted wants none = grind arith

file-wanted : (rows : List Row) (flags : Flags)
    → list_any (λ a. a.required && not (is_given a.id rows)) (filled_from 1 ((rules_of flags ++ file_rule ∷ []) ++ help_rule ∷ [])) ≡ false
    → is_given (codes "FILE") rows ≡ true
file-wanted rows [] unwanting = grind arith
file-wanted rows (flag ∷ flags) unwanting = grind (arith, file-wanted rows flags)

-- a level without a fault has all arguments that it requires
no-check-fault : (s : Shape) (words : List Text) → level_fault s [] nothing_held words false [] ≡ []
    → check_fault s (rows_after s.rules [] words) false ≡ []
no-check-fault s words none = grind (arith, split)

seconds-told : (counted : Text → Bool) (flags : Flags) (rows : List Row) → AreCounted counted flags → AreSound counted rows
    → ((at : Option Moment) → HasSeconds flags rows at → ⊥) → ⊥
seconds-told counted [] rows are sound nothing = nothing None refl
seconds-told counted (flag ∷ flags) rows are sound nothing =
    go flag.1 are.0 (seconds-told counted flags rows are.1 sound) nothing
  where
    go : (takes : Takes) → (takes_seconds takes ≡ true → counted flag.0 ≡ true)
        → (((at : Option Moment) → HasSeconds flags rows at → ⊥) → ⊥)
        → ((at : Option Moment) → SecondsBy takes (IsMomentOf (one_of flag.0 rows) at) (HasSeconds flags rows at) → ⊥) → ⊥
    go takes.Seconds is rest none = rows-told counted flag.0 (is refl) rows sound none
    go (takes.Nothing form) is rest none = rest none
    go takes.Switch is rest none = rest none
    go takes.Moment is rest none = rest none
    go takes.Words is rest none = rest none

-- ---- the subcommand that words without a fault reach

module _ (P : Text × List Row → Type 0) where
  -- words without a fault after the subcommand have matches with the property
  abbrev Reaches : Shape → Type 0
  Reaches s = (words : List Text) → level_fault s [] nothing_held words false [] ≡ [] → P (rows_at s words)

  below : (o : Option Shape) (words : List Text) → IfSome o Reaches
      → option_map_or (λ s. level_fault s [] nothing_held words false []) o [] ≡ []
      → is_some (option_map (λ s. rows_at s words) o) ≡ true → IsSomeAnd (option_map (λ s. rows_at s words) o) P
  below o words reaches none is = grind arith

  after : (line : App) → Each Reaches (built line).subs → (stop : Option (Text × List Text)) → entered_fault (built line) stop ≡ []
      → is_some (entered (built line) stop) ≡ true → IsSomeAnd (entered (built line) stop) P
  after line reach None none is = absurd cc
  after line reach (Some q) none is = search (rules, below, each-find)

  reached : (line : App) → ((has : Bool) (rows : List Row) → check_fault (built line).top rows has ≡ [] → has ≡ true)
      → Each Reaches (built line).subs → (words : List Text) → fault_of line words ≡ [] → IsSomeAnd (subcommand_of line words) P
  reached line wants reach words none =
      let a = built line in
      let after_name = argument_words line words in
      let end = (walk a.top.rules (names_of a) nothing_held after_name).held in
      let stop = stop_after a.top.rules (names_of a) after_name in
      let walks = split (walk_fault a.top (names_of a) (walk_from nothing_held) after_name) _ none in
      let enters = split (entered_fault a stop) _ walks.1 in
      let settles = split (settle_fault a.top.rules a.top.args_override_self end) _ enters.1 in
      let defaults = split (defaults_fault (settled a.top.rules end).rows a.top.rules) _ settles.1 in
      after line reach stop enters.0 (wants (is_some (entered a stop)) (finished a.top.rules end) defaults.1)

-- ---- the command line

abbrev above : Text → Bool → List Shape → Shape
above name has_version shapes = (on_top with_leaf_noted (on_top marked_built (line_of name has_version shapes))).top

subs-built : (name : Text) (has_version : Bool) (shapes : List Shape) → map built_leaf (map (inherited (above name has_version shapes)) shapes)
    ≡ (built (line_of name has_version shapes)).subs
subs-built name has_version shapes = grind arith

-- words without a subcommand have a fault
wants : (name : Text) (has_version : Bool) (shapes : List Shape) (has : Bool) (rows : List Row)
    → check_fault (built (line_of name has_version shapes)).top rows has ≡ [] → has ≡ true
wants name has_version shapes has rows none = grind arith

module _ {T : Type 0} where
  -- the matches are those of a subcommand of the table, with values that can be read and one file or more
  pub record IsGood (table : Table T) (matched : Text × List Row) : Type 0 where
    pub asks : ((asked : T × Option Moment) → AsksIn table matched.0 matched.1 asked → ⊥) → ⊥
    pub counted : Text → Bool
    pub sound : AreSound counted matched.1
    pub files : List Text
    pub files_are : AreFiles matched.1 files

  leaf-good : (name : Text) (has_version : Bool) (all : List Shape) (table : Table T) (own : Text) (flags : Flags) (asks : T)
      → ((rows : List Row) (at : Option Moment) → HasSeconds flags rows at → AsksIn table own rows (asks, at))
      → are_sound flags ≡ true → Reaches (IsGood table) (built_leaf (inherited (above name has_version all) (shape_of own flags)))
  leaf-good name has_version all table own flags asks into sound words none =
      let s = built_leaf (inherited (above name has_version all) (shape_of own flags)) in
      let rows = rows_after s.rules [] words in
      let files = files-given rows (file-wanted rows flags (unwanted _ (no-check-fault s words none))) in
      let counted = is_counted flags in
      let rows_are = in-level s (AreSound counted) words (flags-keep counted (file-other flags flags sound) flags sound) none tt in
      record {
        asks = λ nothing. seconds-told counted flags rows (all-counted flags) rows_are (λ at is. nothing (asks, at) (into rows at is));
        counted = counted;
        sound = rows_are;
        files = files.0;
        files_are = files.1;
      }

  leaves-good : (name : Text) (has_version : Bool) (all : List Shape) (table rest : Table T)
      → ((own : Text) (rows : List Row) (asked : T × Option Moment) → AsksIn rest own rows asked → AsksIn table own rows asked)
      → list_all (λ (row : Text × Flags × T). are_sound row.1) rest ≡ true
      → Each (Reaches (IsGood table)) (map built_leaf (map (inherited (above name has_version all)) (shapes_of rest)))
  leaves-good name has_version all table [] into sound = tt
  leaves-good name has_version all table (row ∷ rest) into sound =
      let parts = both _ _ sound in (
        leaf-good name has_version all table row.0 row.1 row.2 (λ rows at is. into row.0 rows (row.2, at) (inl (refl, refl, is))) parts.0,
        leaves-good name has_version all table rest (λ own rows asked is. into own rows asked (inr is)) parts.1,
      )

  pub faultless : (line : CommandTable T) → is_readable line ≡ true → (words : List Text) → fault_of (app_of_line line) words ≡ []
      → IsSomeAnd (subcommand_of (app_of_line line) words) (IsGood (table_of line.subcommands.now))
  faultless line readable words none =
      let table = table_of line.subcommands.now in
      let name = line.name.now in
      reached (IsGood table) (app_of_line line) (wants name line.has_version (shapes_of table))
      (subst (Each (Reaches (IsGood table))) (subs-built name line.has_version (shapes_of table))
      (leaves-good name line.has_version (shapes_of table) table table (λ own rows asked is. is) (both _ _ readable).1))
      words none

  -- such matches ask for something
  pub good-asks : (table : Table T) (matched : Option (Text × List Row)) → IsSomeAnd matched (IsGood table)
      → ((what : T × Option Moment) (names : List Text) → Matches (AsksIn table) matched what names → ⊥) → ⊥
  good-asks table None good nothing = good
  good-asks table (Some m) good nothing = good.asks (λ asked asks. nothing asked good.files (asks, good.files_are))

  -- of one file or more
  pub good-files : {A : Type 0} (Asks : Text → List Row → A → Type 0) (table : Table T) (matched : Option (Text × List Row))
      → IsSomeAnd matched (IsGood table) → (what : A) (names : List Text) → Matches Asks matched what names → names ≢ []
  good-files Asks table matched good what names asks none = grind (arith, files-some)
