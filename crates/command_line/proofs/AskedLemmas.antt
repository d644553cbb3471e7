-- Lemmas on what command lines ask for, and on why they are refused.
use Rattle.std.proofs.Common.{◌≡◌, ap, subst, sym, inl, inr, unwrap_or, List, [], Option, Some, None, map, string_bytes, arith}
use Rattle.std.specs.Prelude.{IsSomeAnd}
use Rattle.clap.specs.Words.{App, Row, Text, fault_of, subcommand_of}
use Rattle.mdns_survey.specs.declared.request.AsOf.{AsOf}
use Rattle.mdns_listeners.specs.Groups.{unfit_prefix}
use Rattle.command_line.specs.declared.{mdnsmerge.Asks.{Asks}, options.Options.{Options}, option_fault.OptionFault.{OptionFault}}
use Rattle.command_line.specs.{declared.scope.Scope.{Scope}, CommandLine.{HasFitting, task_of}, Faults.{IsRefusal}}
use Rattle.command_line.specs.Line.{HasOptions, Matches}
use Rattle.command_line.specs.OptionFault.{GivesNone, IsUnmade, option_fault_text}
use Rattle.command_line.specs.declared.words.{AskFault.{AskFault}, AskFault.TheVariants.{Version, Words}}
use Rattle.command_line.specs.declared.words.{WordsFault.{WordsFault}, WordsFault.TheVariants.{Memory, Help, Refused}}

-- what is asked for by other words
pub asks-also : {A B : Type 0} (P : Text → List Row → A → Type 0) (Q : Text → List Row → B → Type 0) (a : A) (b : B)
    → ((name : Text) (rows : List Row) → P name rows a → Q name rows b)
    → (matched : Option (Text × List Row)) (names : List Text) → Matches P matched a names → Matches Q matched b names
asks-also P Q a b also matched names asks = grind arith

-- where each prefix fits a file, those of the task do
pub task-fits : (own : Asks) (as_of : AsOf) (scope : Scope) (names : List Text)
    → unfit_prefix (map string_bytes scope.options.lists.listeners.items) names ≡ None → HasFitting (task_of own as_of scope) names
task-fits own as_of scope names fit = grind arith

-- ---- refusals

module _ (MakesNone : Options → List Text → OptionFault → Type 0) where
  -- options that make nothing are refused
  pub unmade : {A : Type 0} (Asks : Text → List Row → A → Type 0) (program : Text) (line : App) (words : List Text) (asked : A)
      (options : Options) (names : List Text) (option_fault : OptionFault) (fault : WordsFault) → fault_of line words ≡ []
      → Matches Asks (subcommand_of line words) asked names
      → ((name : Text) (rows : List Row) → Asks name rows asked → HasOptions rows options) → MakesNone options names option_fault
      → IsRefusal (option_fault_text program option_fault) fault → IsUnmade MakesNone program line words (Words fault)
  unmade Asks program line words asked options names option_fault Memory none asks gives makes is = inl tt
  unmade Asks program line words asked options names option_fault (Help text) none asks gives makes is = absurd is
  unmade Asks program line words asked options names option_fault (Refused text) none asks gives makes is =
      inr (none, go (subcommand_of line words) asks)
    where
      go : (matched : Option (Text × List Row)) → Matches Asks matched asked names
          → IsSomeAnd matched (λ m. GivesNone MakesNone program m.1 (string_bytes text))
      go None asks = absurd asks
      go (Some m) asks =
          let files = ap (λ (all : Option (List Text)). unwrap_or all []) asks.1 in
          let none = subst (λ (all : List Text). MakesNone options all option_fault) (sym files) makes in
          (options, gives m.0 m.1 asks.0, (option_fault, none, is))

  -- so they are where they make nothing else
  pub unmade-also : (Other : Options → List Text → OptionFault → Type 0)
      → ((options : Options) (names : List Text) (option_fault : OptionFault) → MakesNone options names option_fault
      → Other options names option_fault) → (program : Text) (line : App) (words : List Text) (fault : AskFault)
      → IsUnmade MakesNone program line words fault → IsUnmade Other program line words fault
  unmade-also Other also program line words fault (inl unasked) = inl unasked
  unmade-also Other also program line words (Version text) (inr refused) = absurd refused
  unmade-also Other also program line words (Words Memory) (inr refused) = absurd refused
  unmade-also Other also program line words (Words (Help text)) (inr refused) = absurd refused
  unmade-also Other also program line words (Words (Refused text)) (inr refused) = inr (refused.0, go (subcommand_of line words) refused.1)
    where
      go : (matched : Option (Text × List Row)) → IsSomeAnd matched (λ m. GivesNone MakesNone program m.1 (string_bytes text))
          → IsSomeAnd matched (λ m. GivesNone Other program m.1 (string_bytes text))
      go None none = absurd none
      go (Some m) (options, has, (option_fault, makes, is)) = (options, has, (option_fault, also options _ option_fault makes, is))
