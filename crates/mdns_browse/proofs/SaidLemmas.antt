-- Names as people write them.
use Rattle.std.proofs.{lemmas.Grind.{common_steps}, Common.{arith, ◌≡◌, refl, ◌∙◌, ap, ℕ, Bool, true, false}}
use Rattle.std.proofs.Common.{if◌then◌else◌, List, [], ◌∷◌, ◌++◌, append_assoc}
use Rattle.std.specs.List.{flat_map}
use Rattle.people_text.specs.Shown.{dotted, shown}
use Rattle.mdns_browse.specs.NameSaid.{after_front, before_type, from_type, front, is_of_type}
use Rattle.dns_name.proofs.FormLemmas.{IsForm-after}
use Rattle.dns_name.proofs.FormLemmas.{IsForm-last}
use Rattle.dns_name.proofs.FormLemmas.{labels_of-after}
use Rattle.std.proofs.lemmas.Result.{IfOk-equal}
use Rattle.std.proofs.lemmas.Result.{IfOk-weaker}

-- the labels that follow another one, each after a `.`
abbrev pub further_said : List (List ℕ) → List ℕ
further_said labels = flat_map (λ label. 46 ∷ shown label) labels

abbrev pub labels_said : List (List ℕ) → List ℕ
labels_said labels = dotted shown labels

-- one label more was written, and the others are left
pub label-written : (old new label whole : List ℕ) (labels : List (List ℕ)) → old ++ further_said labels ≡ whole
    → (after : List (List ℕ)) → labels ≡ label ∷ after → new ≡ old ++ 46 ∷ shown label → new ++ further_said after ≡ whole
label-written old new label whole labels at after first more = grind (arith, append_assoc)

-- a label that is of no type stands before one
before-other : (label : List ℕ) (labels : List (List ℕ)) → is_of_type label ≡ false
    → before_type (label ∷ labels) ≡ label ∷ before_type labels
before-other label labels other = rw other refl

pub from-other : (labels : List (List ℕ)) (label : List ℕ) (after : List (List ℕ)) → labels ≡ label ∷ after → is_of_type label ≡ false
    → from_type labels ≡ from_type after
from-other labels label after first other = ap from_type first ∙ rw other refl

pub before-written : (old new label whole : List ℕ) (labels : List (List ℕ)) → old ++ further_said (before_type labels) ≡ whole
    → (after : List (List ℕ)) → labels ≡ label ∷ after → is_of_type label ≡ false → new ≡ old ++ 46 ∷ shown label
    → new ++ further_said (before_type after) ≡ whole
before-written old new label whole labels at after first other more = grind (arith, common_steps, label-written, before-other)

-- what stands before a type, and what follows
parts_if : (of_type : Bool) (label : List ℕ) (labels : List (List ℕ))
    → further_said (before_type labels) ++ further_said (from_type labels) ≡ further_said labels
    → further_said (if of_type then [] else label ∷ before_type labels)
    ++ further_said (if of_type then label ∷ labels else from_type labels) ≡ further_said (label ∷ labels)
parts_if true label labels rest = refl
parts_if false label labels rest = rw append_assoc (ap (λ text. (46 ∷ shown label) ++ text) rest)

parts : (labels : List (List ℕ)) → further_said (before_type labels) ++ further_said (from_type labels) ≡ further_said labels
parts [] = refl
parts (label ∷ labels) = parts_if (is_of_type label) label labels (parts labels)

pub front-written : (old mid label : List ℕ) (labels after : List (List ℕ)) → mid ≡ old ++ shown label → labels ≡ label ∷ after
    → mid ++ further_said (before_type after) ≡ old ++ labels_said (front labels)
front-written old mid label labels after first are = grind (arith, append_assoc)

pub said-parts : (labels : List (List ℕ)) → labels_said (front labels) ++ further_said (after_front labels) ≡ labels_said labels
said-parts [] = refl
said-parts (label ∷ labels) = rw append_assoc (ap (λ text. shown label ++ text) (parts labels))

-- both were written
pub said-written : (first whole : List ℕ) (labels rest : List (List ℕ)) → first ≡ labels_said (front labels) → rest ≡ after_front labels
    → whole ≡ first ++ further_said rest → whole ≡ labels_said labels
said-written first whole labels rest begun left both = grind (arith, said-parts)

-- WHAT FUNCTIONS ARE PROVED BY

pub ruleset for_push_front = (front-written, IfOk-equal, IfOk-weaker, IsForm-after, IsForm-last, labels_of-after)
