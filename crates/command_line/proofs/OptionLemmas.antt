-- Lemmas on the values of options, as clap reads them.
use Rattle.std.proofs.Common.{◌≡◌, codes, ◌≤◌, ◌*◌, ◌+◌, ◌↔◌, refl, subst, arith, true, false, Bool, ℕ, Option, Some, None, map}
use Rattle.std.proofs.Common.{option_map, unwrap_or, List, [], Result, Ok, Err, IfSome}
use Rattle.std.specs.{Borrow.{Bor}, Str.Parse.{ParsesUnsigned}}
use Rattle.clap.specs.Words.{Row, Text, TriesOne}
use Rattle.mdns_capture.specs.declared.moment.Moment.{Moment}
use Rattle.mdns_browse.specs.declared.report.Form.{Form}
use Rattle.command_line.specs.{Line.{Flags, GivesForm, HasNoForm, HasOneForm, IsFlag, IsMomentOf}}
use Rattle.command_line.specs.declared.options.ConflictingFlags.{ConflictingFlags}
use Rattle.clap.proofs.WalkLemmas.{first_value-rows, one_text-rows, raw_values-rows}
use Rattle.command_line.proofs.FinalDotLemmas.{printers-asked}

-- what a flag is read as
pub flag-told : (flag : Bool) (text rows : Option Text) → text ≡ rows → (text ≡ None → flag ≡ false)
    → (text ≡ Some (codes "true") → flag ≡ true) → (text ≡ Some (codes "false") → flag ≡ false) → IsFlag rows flag
flag-told flag text rows same none is other = grind arith

-- the moment of a number that was read is that number of seconds
pub moment-told : {E : Type 0} (G : Text → Result ℕ E → Type 0) → ((t : Text) (x : Result ℕ E) → G t x → ParsesUnsigned 32 10 t x)
    → (o : Option Text) (found : Option ℕ) (n : ℕ) → found ≡ Some n → (o ≡ None → ◌≡◌ {A = Result (Option ℕ) E} (Ok found) (Ok None))
    → ((t : Text) → o ≡ Some t → TriesOne G t (Ok found))
    → (at : Option Moment) → (at ≡ None ↔ 1000000000 ≤ 0) → IfSome at (λ moment. moment.nanos ≡ n * 1000000000 + 0) → IsMomentOf o at
moment-told G only o None n is none value at absent nanos = absurd cc
moment-told G only None (Some k) n is none value at absent nanos = let clash = none refl in absurd cc
moment-told G only (Some t) (Some k) n is none value None absent nanos = let never = absent.0 refl in absurd (omega arith)
moment-told G only (Some t) (Some k) n is none value (Some moment) absent nanos =
    let read = only t (Ok k) (value t refl) in
    let same : k ≡ n = cc in
    (read.0.0, rw (← read.1) (omega (arith, same, nanos)))

-- where no number was found, the option has no value
pub none-told : {E : Type 0} (G : Text → Result ℕ E → Type 0) (o : Option Text) (found : Option ℕ) → found ≡ None
    → ((t : Text) → o ≡ Some t → TriesOne G t (Ok found)) → IsMomentOf o None
none-told G None found is value = tt
none-told G (Some t) found is value = subst (λ (f : Option ℕ). TriesOne G t (Ok f)) is (value t refl)

-- where no number can be read, the value has no moment
pub unread-told : {E : Type 0} (G : Text → Result ℕ E → Type 0) → ((t : Text) (x : Result ℕ E) → G t x → ParsesUnsigned 32 10 t x)
    → (o : Option Text) (e : E) → (o ≡ None → ◌≡◌ {A = Result (Option ℕ) E} (Err e) (Ok None))
    → ((t : Text) → o ≡ Some t → TriesOne G t (Err e)) → (at : Option Moment) → IsMomentOf o at → ⊥
unread-told G only None e none value at is = let clash = none refl in absurd cc
unread-told G only (Some t) e none value None is = is
unread-told G only (Some t) e none value (Some moment) is =
    let limit = moment.limit in
    only t (Err e) (value t refl) (is.0, omega (arith, is.1, limit))

-- ---- the form of the flags, flag by flag

-- the form of these flags, after the one that is given and asks for a form, if there is one
abbrev pub HasFormAfter : Option (Bor Text × Form) → Flags → List Row → Result Form ConflictingFlags → Type 0
HasFormAfter None flags rows form = HasOneForm flags rows form
HasFormAfter (Some one) flags rows (Ok form) = HasNoForm flags rows × (form ≡ one.1)
HasFormAfter (Some one) flags rows (Err both) = (both.one.now ≡ one.0.now) × GivesForm flags rows both.other.now

-- ---- the matches, as the getters give them

-- two properties of the value of an option
abbrev pair : {B : Type 0} → (B → Text) → (B → List Row) → B → Text × List Row
pair f g b = (f b, g b)

pub both-parts : {B : Type 0} (f : B → Text) (g : B → List Row) (o : Option B) (name : Text) (rows : List Row)
    → option_map f o ≡ Some name → option_map (λ (p : Text × List Row). p.1) (option_map (pair f g) o) ≡ Some rows
    → option_map (pair f g) o ≡ Some (name, rows)
both-parts f g o name rows named found = grind arith

-- the words of an option, or none where it isn't given
pub lent-words : (words : Option (Bor (List (Bor Text)))) (none : Bor (List (Bor Text))) → none.now ≡ []
    → map (λ word. word.now) (unwrap_or words none).now ≡ unwrap_or (option_map (λ s. map (λ word. word.now) s.now) words) []
lent-words words none is = grind arith

pub ruleset for_moment_of = (moment-told, none-told, unread-told, one_text-rows)

pub ruleset for_is_given = (flag-told, one_text-rows)

pub ruleset for_options_of = (first_value-rows)

pub ruleset for_matched = (both-parts, raw_values-rows)

pub ruleset for_lists_of = (raw_values-rows, lent-words, printers-asked)
