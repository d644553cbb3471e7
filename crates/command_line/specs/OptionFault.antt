-- Why options make no task, and the error lines that say so.
use Rattle.std.specs.Prelude.{◌≡◌, ◌≢◌, ◌⊎◌, ◌&&◌, ◌++◌, ◌∷◌, Bool, List, [], Option, Some, None, Err, true, IsSomeAnd, codes, map}
use Rattle.std.specs.{Prelude.{if◌then◌else◌, nat_le, slice_index_or, string_bytes}, List.{list_all}, Borrow.{Bor}}
use Rattle.clap.specs.Words.{App, Row, Text, fault_of, subcommand_of}
use Rattle.mdns_capture.specs.declared.moment.Moment.{Moment}
use Rattle.mdns_lives.specs.declared.window.Window.{Window}
use Rattle.mdns_listeners.specs.Groups.{unfit_prefix}
use Rattle.command_line.specs.declared.{options.Options.{Options}, option_fault.OptionFault.{OptionFault}}
use Rattle.command_line.specs.declared.words.{WordsFault.TheVariants.{Refused}, AskFault.{AskFault}, AskFault.TheVariants.{Words}}
use Rattle.command_line.specs.{Faults.{IsUnasked}, Line.{HasOptions, files_in, text_of}, CommandLine.{GivesWindow}, Moments.{IsMomentText}}
use Rattle.command_line.specs.declared.option_fault.OptionFault.TheVariants as option_fault

-- the option of this name is given, and its text names no moment
abbrev pub NamesNone : Text → Option (Bor Text) → OptionFault → Type 0
NamesNone own given (option_fault.NoMoment name text) =
    (name.now ≡ own) × (text_of given ≡ Some text.now) × ((moment : Moment) → IsMomentText text.now moment → ⊥)
NamesNone own given other = ⊥

-- for this reason the options don't say as of when
abbrev pub MakesNoAsOf : Options → OptionFault → Type 0
MakesNoAsOf options (option_fault.ConflictingFlags both) = (both.one.now ≡ codes "at") × (both.other.now ≡ codes "before")
    × (text_of options.at ≢ None) × (text_of options.before ≢ None)
MakesNoAsOf options other = (NamesNone (codes "at") options.at other × (text_of options.before ≡ None))
    ⊎ (NamesNone (codes "before") options.before other × (text_of options.at ≡ None))

-- for this reason the options make no form on these files: two flags ask for forms, or a prefix, the first such, fits no file
abbrev pub MakesNoForm : Options → List Text → OptionFault → Type 0
MakesNoForm options names (option_fault.ConflictingFlags both) = options.form ≡ Err both
MakesNoForm options names (option_fault.NoFile name prefix) =
    IsSomeAnd (unfit_prefix (map string_bytes options.lists.listeners.items) names) (λ at.
    (name.now ≡ codes "listener") × (prefix.now ≡ slice_index_or (map string_bytes options.lists.listeners.items) at []))
MakesNoForm options names other = ⊥

-- the bounds of the window are reversed
abbrev pub IsReversed : Options → OptionFault → Type 0
IsReversed options option_fault.EmptyWindow =
    (window : Window) × GivesWindow (text_of options.since) (text_of options.until) true window
IsReversed options other = ⊥

-- for this reason the options give no window
abbrev pub MakesNoWindow : Options → OptionFault → Type 0
MakesNoWindow options option_fault = NamesNone (codes "since") options.since option_fault
    ⊎ NamesNone (codes "until") options.until option_fault ⊎ IsReversed options option_fault

-- for one of these reasons the options make no inquiry of these files
abbrev pub MakesNoInquiry : Options → List Text → OptionFault → Type 0
MakesNoInquiry options names option_fault = MakesNoForm options names option_fault ⊎ MakesNoWindow options option_fault

-- for one of these reasons they make no task
abbrev pub MakesNoTask : Options → List Text → OptionFault → Type 0
MakesNoTask options names option_fault = MakesNoInquiry options names option_fault ⊎ MakesNoAsOf options option_fault

-- ---- the error lines

abbrev pub both_given : Text → Text → Text → Text
both_given program one other =
    program ++ (codes ": --" ++ (one ++ (codes " and --" ++ (other ++ codes " can't be given together"))))

-- a text of printable ASCII is repeated
abbrev pub is_plain : Text → Bool
is_plain = list_all (λ byte. nat_le 32 byte && nat_le byte 126)

abbrev pub quoted : Text → Text
quoted text = if is_plain text then 39 ∷ (text ++ codes "' ") else []

-- the line of an invalid value of an option
abbrev pub invalid : Text → Text → Text → Text → Text → Text
invalid program what value name cure = program ++ (codes ": invalid " ++ (what ++ (codes " " ++ (quoted value ++ (codes "for --"
    ++ (name ++ (codes ": " ++ cure)))))))

abbrev pub no_moment : Text → Text → Text → Text
no_moment program name text = invalid program (codes "moment") text name
    (codes "give seconds since 1970 (1795332403.397617) or a date and time with its zone (2026-11-22T07:27:00Z)")

abbrev pub empty_window : Text → Text
empty_window program = program ++ codes ": --since must be earlier than --until: nothing lies between them"

abbrev pub no_file : Text → Text → Text → Text
no_file program name prefix = invalid program (codes "prefix") prefix name (codes "no FILE's name, without folders, begins with it")

-- the error line of a program of that name
abbrev pub option_fault_text : Text → OptionFault → Text
option_fault_text program (option_fault.ConflictingFlags both) = both_given program both.one.now both.other.now
option_fault_text program (option_fault.NoMoment name text) = no_moment program name.now text.now
option_fault_text program option_fault.EmptyWindow = empty_window program
option_fault_text program (option_fault.NoFile name prefix) = no_file program name.now prefix.now

-- ---- refusals

-- the options of these matches make nothing of their files, for a reason that the line says
abbrev pub GivesNone : (Options → List Text → OptionFault → Type 0) → Text → List Row → Text → Type 0
GivesNone MakesNone program rows line = (options : Options) × HasOptions rows options
    × ((option_fault : OptionFault) × MakesNone options (files_in rows) option_fault × (line ≡ option_fault_text program option_fault))

-- clap finds no fault in the words, but they are refused with this line, since their options make nothing
abbrev pub IsRefusedFor : (Options → List Text → OptionFault → Type 0) → Text → App → List Text → AskFault → Type 0
IsRefusedFor MakesNone program line words (Words (Refused text)) =
    (fault_of line words ≡ []) × IsSomeAnd (subcommand_of line words) (λ matched. GivesNone MakesNone program matched.1 (string_bytes text))
IsRefusedFor MakesNone program line words fault = ⊥

-- the same; or clap finds a fault in the words, or an allocation failed
abbrev pub IsUnmade : (Options → List Text → OptionFault → Type 0) → Text → App → List Text → AskFault → Type 0
IsUnmade MakesNone program line words fault =
    IsUnasked (fault_of line words) fault ⊎ IsRefusedFor MakesNone program line words fault
