-- What people ask for, one value at a time.
use Rattle.std.proofs.Common.{◌≡◌, refl, sym, ◌∙◌, ap, ℕ, ◌<◌, ◌==◌, Bool, true, false, ◌||◌, List, [], ◌∷◌, ◌++◌, length, arith}
use Rattle.std.proofs.lemmas.{List.Folds.{list_any-append}, Result.{IfOk-weaker}}
use Rattle.std.specs.Cmp.Lexicographic.{texts_ties}
use Rattle.dns_name.specs.Name.{IsLabel, IsWire, labels_of}
use Rattle.dns_name.proofs.FormLemmas.{IsForm-after, IsForm-last, labels_of-after, labels_of_form, length-after}
use Rattle.mdns_browse.specs.About.{Term, asks_for_any, bytes_terms, keeps, label_terms, name_terms, rest_terms, string_terms}
use Rattle.mdns_browse.specs.declared.about.Subject.{Subject}
use Rattle.mdns_browse.proofs.SaidLemmas.{said-written}

pub or_false : (b : Bool) → (b || false) ≡ b
or_false true = refl
or_false false = refl

-- ---- names

-- a name's wire form, and its first label and the rest
abbrev pub Begins : List ℕ → List ℕ → List ℕ → Type 0
Begins label rest bytes = IsLabel label × (bytes ≡ length label ∷ (label ++ rest))

-- no label begins there
abbrev pub BeginsNone : List ℕ → Type 0
BeginsNone wire = (label rest : List ℕ) → IsLabel label → (wire ≡ length label ∷ (label ++ rest)) → ⊥

pub label-first : (wire label rest : List ℕ) → Begins label rest wire → label_terms (labels_of wire) ≡ bytes_terms true label
label-first wire label rest head = ap label_terms (labels_of-after label rest wire head)

pub label-none : (wire : List ℕ) → BeginsNone wire → IsWire wire → label_terms (labels_of wire) ≡ []
label-none wire none is = ap (λ bytes. label_terms (labels_of bytes)) (IsForm-last wire none is.form)

pub rest-wire : (label rest wire : List ℕ) → Begins label rest wire → IsWire wire → IsWire rest
rest-wire label rest wire head is = grind (arith, IsForm-after, length-after)

pub rest-first : (wire label rest : List ℕ) → Begins label rest wire → IsWire wire → rest_terms (labels_of wire) ≡ name_terms rest
rest-first wire label rest head is =
    ap rest_terms (labels_of-after label rest wire head)
    ∙ ap name_terms (labels_of_form rest (rest-wire label rest wire head is).form).1

pub rest-none : (wire : List ℕ) → BeginsNone wire → IsWire wire → rest_terms (labels_of wire) ≡ []
rest-none wire none is = ap (λ bytes. rest_terms (labels_of bytes)) (IsForm-last wire none is.form)

-- ---- strings

pub string-some : (string : List ℕ) → 0 < length string → string_terms string ≡ bytes_terms false string
string-some [] some = absurd (omega (arith, some))
string-some (b ∷ bytes) some = refl

pub string-none : (string : List ℕ) → (0 < length string → ⊥) → string_terms string ≡ []
string-none [] none = refl
string-none (b ∷ bytes) none = absurd (none (omega arith))

-- ---- what is kept

-- without subjects all is, and with subjects one of them decides
pub keeps-all : (about : List Subject) (all : List Term) → (length about == 0) ≡ true → true ≡ keeps about all
keeps-all about all none = sym (ap (λ none. none || asks_for_any about all) none)

pub keeps-some : (about : List Subject) (all : List Term) → (length about == 0) ≡ false → keeps about all ≡ asks_for_any about all
keeps-some about all some = ap (λ none. none || asks_for_any about all) some

-- WHAT FUNCTIONS ARE PROVED BY

pub ruleset for_terms = (list_any-append, or_false, IfOk-weaker)

pub ruleset for_matches_address = (texts_ties)

pub ruleset for_matches_name = (label-first, label-none, list_any-append, or_false, IfOk-weaker)

pub ruleset for_matches_rest = (rest-first, rest-none, rest-wire, IfOk-weaker)

pub ruleset for_matches_said = (said-written, or_false)

pub ruleset for_matches_string = (string-none, string-some, IfOk-weaker)

pub ruleset for_keeps = (keeps-all, keeps-some, list_any-append, IfOk-weaker)
