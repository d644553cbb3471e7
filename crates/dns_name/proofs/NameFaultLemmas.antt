-- Faults in names: at most one is the first, and none comes where there is a name. Two rows of the
-- order of checks never meet, since each fixes the octet at the offset.
use Rattle.std.proofs.Common.{◌≡◌, ℕ, ◌+◌, ◌≤◌, List, ◌++◌, length, sym, ◌∙◌, subst, arith, length-append}
use Rattle.std.specs.Prelude.{slice_range}
use Rattle.dns_name.specs.{NameAt.{NameStands, NameReads, LabelAt}, NameAt.NameStands.{root, label, pointer}}
use Rattle.dns_name.specs.FirstFault.{NameFailsUnder, NameFails}
use Rattle.dns_name.specs.FirstFault.NameFailsUnder.{no_octet, label_cut, label_long, label_form, pointer_cut, pointer_target, after_label}
use Rattle.dns_name.specs.{FirstFault.NameFailsUnder.{after_pointer}, declared.fault.NameReadFault.{NameReadFault}}
use Rattle.dns_name.proofs.NameLemmas.{label_unique, pointer_unique, label_length, name_some}
use Rattle.std.proofs.Common.{rules}

-- reading meets at most one first fault
pub one_first_fault : (m : List ℕ) {p s u : ℕ} {f g : NameReadFault} → NameFailsUnder m p s u f → NameFailsUnder m p s u g → f ≡ g
one_first_fault m (no_octet a e) (no_octet b i) = e ∙ sym i
one_first_fault m (no_octet a e) (label_cut j b1 b2 b3 b4 b5 i) = absurd (omega arith)
one_first_fault m (no_octet a e) (label_long j b h i) = absurd (omega arith)
one_first_fault m (no_octet a e) (label_form b1 b2 b3 i) = absurd (omega arith)
one_first_fault m (no_octet a e) (pointer_cut b1 b2 b3 i) = absurd (omega arith)
one_first_fault m (no_octet a e) (pointer_target o b h i) = absurd (omega arith)
one_first_fault m (no_octet a e) (after_label j b h c) = absurd (omega arith)
one_first_fault m (no_octet a e) (after_pointer o b h c) = absurd (omega arith)
one_first_fault m (label_cut k a1 a2 a3 a4 a5 e) (no_octet b i) = absurd (omega arith)
one_first_fault m (label_cut k a1 a2 a3 a4 a5 e) (label_cut j b1 b2 b3 b4 b5 i) = e ∙ sym i
one_first_fault m (label_cut k a1 a2 a3 a4 a5 e) (label_long j b h i) = absurd (omega arith)
one_first_fault m (label_cut k a1 a2 a3 a4 a5 e) (label_form b1 b2 b3 i) = absurd (omega arith)
one_first_fault m (label_cut k a1 a2 a3 a4 a5 e) (pointer_cut b1 b2 b3 i) = absurd (omega arith)
one_first_fault m (label_cut k a1 a2 a3 a4 a5 e) (pointer_target o b h i) = absurd (omega arith)
one_first_fault m (label_cut k a1 a2 a3 a4 a5 e) (after_label j b h c) = absurd (omega arith)
one_first_fault m (label_cut k a1 a2 a3 a4 a5 e) (after_pointer o b h c) = absurd (omega arith)
one_first_fault m (label_long k a l e) (no_octet b i) = absurd (omega arith)
one_first_fault m (label_long k a l e) (label_cut j b1 b2 b3 b4 b5 i) = absurd (omega arith)
one_first_fault m (label_long k a l e) (label_long j b h i) = e ∙ sym i
one_first_fault m (label_long k a l e) (label_form b1 b2 b3 i) = absurd (omega arith)
one_first_fault m (label_long k a l e) (pointer_cut b1 b2 b3 i) = absurd (omega arith)
one_first_fault m (label_long k a l e) (pointer_target o b h i) = absurd (omega arith)
one_first_fault m (label_long k a l e) (after_label j b h c) = absurd (omega arith)
one_first_fault m (label_long k a l e) (after_pointer o b h c) = absurd (omega arith)
one_first_fault m (label_form a1 a2 a3 e) (no_octet b i) = absurd (omega arith)
one_first_fault m (label_form a1 a2 a3 e) (label_cut j b1 b2 b3 b4 b5 i) = absurd (omega arith)
one_first_fault m (label_form a1 a2 a3 e) (label_long j b h i) = absurd (omega arith)
one_first_fault m (label_form a1 a2 a3 e) (label_form b1 b2 b3 i) = e ∙ sym i
one_first_fault m (label_form a1 a2 a3 e) (pointer_cut b1 b2 b3 i) = absurd (omega arith)
one_first_fault m (label_form a1 a2 a3 e) (pointer_target o b h i) = absurd (omega arith)
one_first_fault m (label_form a1 a2 a3 e) (after_label j b h c) = absurd (omega arith)
one_first_fault m (label_form a1 a2 a3 e) (after_pointer o b h c) = absurd (omega arith)
one_first_fault m (pointer_cut a1 a2 a3 e) (no_octet b i) = absurd (omega arith)
one_first_fault m (pointer_cut a1 a2 a3 e) (label_cut j b1 b2 b3 b4 b5 i) = absurd (omega arith)
one_first_fault m (pointer_cut a1 a2 a3 e) (label_long j b h i) = absurd (omega arith)
one_first_fault m (pointer_cut a1 a2 a3 e) (label_form b1 b2 b3 i) = absurd (omega arith)
one_first_fault m (pointer_cut a1 a2 a3 e) (pointer_cut b1 b2 b3 i) = e ∙ sym i
one_first_fault m (pointer_cut a1 a2 a3 e) (pointer_target o b h i) = absurd (omega arith)
one_first_fault m (pointer_cut a1 a2 a3 e) (after_label j b h c) = absurd (omega arith)
one_first_fault m (pointer_cut a1 a2 a3 e) (after_pointer o b h c) = absurd (omega arith)
one_first_fault m (pointer_target t a l e) (no_octet b i) = absurd (omega arith)
one_first_fault m (pointer_target t a l e) (label_cut j b1 b2 b3 b4 b5 i) = absurd (omega arith)
one_first_fault m (pointer_target t a l e) (label_long j b h i) = absurd (omega arith)
one_first_fault m (pointer_target t a l e) (label_form b1 b2 b3 i) = absurd (omega arith)
one_first_fault m (pointer_target t a l e) (pointer_cut b1 b2 b3 i) = absurd (omega arith)
one_first_fault m (pointer_target t a l e) (pointer_target o b h i) = e ∙ sym i
one_first_fault m (pointer_target t a l e) (after_label j b h c) = absurd (omega arith)
one_first_fault m (pointer_target t a l e) (after_pointer o b h c) = let same : t ≡ o = pointer_unique m _ t o a b in absurd (omega arith)
one_first_fault m (after_label k a l d) (no_octet b i) = absurd (omega arith)
one_first_fault m (after_label k a l d) (label_cut j b1 b2 b3 b4 b5 i) = absurd (omega arith)
one_first_fault m (after_label k a l d) (label_long j b h i) = absurd (omega arith)
one_first_fault m (after_label k a l d) (label_form b1 b2 b3 i) = absurd (omega arith)
one_first_fault m (after_label k a l d) (pointer_cut b1 b2 b3 i) = absurd (omega arith)
one_first_fault m (after_label k a l d) (pointer_target o b h i) = absurd (omega arith)
one_first_fault m {p} {s} {u} {g = g} (after_label k a l d) (after_label j b h c) =
    let same : j ≡ k = label_unique m p j k b a in
    let P : ℕ → Type 0 = λ i. NameFailsUnder m (p + 1 + i) s (u + i + 1) g in
    one_first_fault m d (subst P same c)
one_first_fault m (after_label k a l d) (after_pointer o b h c) = absurd (omega arith)
one_first_fault m (after_pointer t a l d) (no_octet b i) = absurd (omega arith)
one_first_fault m (after_pointer t a l d) (label_cut j b1 b2 b3 b4 b5 i) = absurd (omega arith)
one_first_fault m (after_pointer t a l d) (label_long j b h i) = absurd (omega arith)
one_first_fault m (after_pointer t a l d) (label_form b1 b2 b3 i) = absurd (omega arith)
one_first_fault m (after_pointer t a l d) (pointer_cut b1 b2 b3 i) = absurd (omega arith)
one_first_fault m (after_pointer t a l d) (pointer_target o b h i) = let same : t ≡ o = pointer_unique m _ t o a b in absurd (omega arith)
one_first_fault m (after_pointer t a l d) (after_label j b h c) = absurd (omega arith)
one_first_fault m {u = u} {g = g} (after_pointer t a l d) (after_pointer o b h c) =
    let same : o ≡ t = pointer_unique m _ o t b a in
    let P : ℕ → Type 0 = λ i. NameFailsUnder m i i u g in
    one_first_fault m d (subst P same c)

-- a name that begins with a label of k octets has two octets more at least
label_name_length : (m : List ℕ) {p s k : ℕ} {n rest : List ℕ} {q : ℕ} → LabelAt m p k
    → NameStands m (p + 1 + k) s rest q → n ≡ slice_range m p (p + 1 + k) ++ rest → k + 2 ≤ length n
label_name_length m {p} {s} {k} {n} {rest} a d e = grind (arith, label_length, name_some, length-append)

-- where a name fits after u octets, its rest fits after its first label
rest_fits : (m : List ℕ) (p k u : ℕ) (n rest : List ℕ) → LabelAt m p k → n ≡ slice_range m p (p + 1 + k) ++ rest
    → u + length n ≤ 256 → u + k + 1 + length rest ≤ 256
rest_fits m p k u n rest a e h = grind (arith, label_length, length-append)

-- a name that fits after u octets meets no fault
pub no_fault_in_name : (m : List ℕ) {p s : ℕ} {n : List ℕ} {q u : ℕ} {f : NameReadFault} → NameStands m p s n q
    → u + length n ≤ 256 → NameFailsUnder m p s u f → ⊥
no_fault_in_name m (root a e g) n (no_octet b i) = absurd (omega arith)
no_fault_in_name m (root a e g) n (label_cut j b1 b2 b3 b4 b5 i) = absurd (omega arith)
no_fault_in_name m (root a e g) n (label_long j b h i) = absurd (omega arith)
no_fault_in_name m (root a e g) n (label_form b1 b2 b3 i) = absurd (omega arith)
no_fault_in_name m (root a e g) n (pointer_cut b1 b2 b3 i) = absurd (omega arith)
no_fault_in_name m (root a e g) n (pointer_target o b h i) = absurd (omega arith)
no_fault_in_name m (root a e g) n (after_label j b h c) = absurd (omega arith)
no_fault_in_name m (root a e g) n (after_pointer o b h c) = absurd (omega arith)
no_fault_in_name m (label k rest a d e) n (no_octet b i) = absurd (omega arith)
no_fault_in_name m (label k rest a d e) n (label_cut j b1 b2 b3 b4 b5 i) = absurd (omega arith)
no_fault_in_name m {p} (label k rest a d e) n (label_long j b h i) = grind (arith, label_unique, label_name_length)
no_fault_in_name m (label k rest a d e) n (label_form b1 b2 b3 i) = absurd (omega arith)
no_fault_in_name m (label k rest a d e) n (pointer_cut b1 b2 b3 i) = absurd (omega arith)
no_fault_in_name m (label k rest a d e) n (pointer_target o b h i) = absurd (omega arith)
no_fault_in_name m {p} {s} {u = u} {f} (label k rest a d e) n (after_label j b h c) =
    let same : j ≡ k = label_unique m p j k b a in
    let P : ℕ → Type 0 = λ i. NameFailsUnder m (p + 1 + i) s (u + i + 1) f in
    no_fault_in_name m d (rest_fits m p k u _ rest a e n) (subst P same c)
no_fault_in_name m (label k rest a d e) n (after_pointer o b h c) = absurd (omega arith)
no_fault_in_name m (pointer t after a l d g) n (no_octet b i) = absurd (omega arith)
no_fault_in_name m (pointer t after a l d g) n (label_cut j b1 b2 b3 b4 b5 i) = absurd (omega arith)
no_fault_in_name m (pointer t after a l d g) n (label_long j b h i) = absurd (omega arith)
no_fault_in_name m (pointer t after a l d g) n (label_form b1 b2 b3 i) = absurd (omega arith)
no_fault_in_name m (pointer t after a l d g) n (pointer_cut b1 b2 b3 i) = absurd (omega arith)
no_fault_in_name m (pointer t after a l d g) n (pointer_target o b h i) = grind (arith, pointer_unique)
no_fault_in_name m (pointer t after a l d g) n (after_label j b h c) = absurd (omega arith)
no_fault_in_name m {u = u} {f} (pointer t after a l d g) n (after_pointer o b h c) =
    let same : o ≡ t = pointer_unique m _ o t b a in
    let P : ℕ → Type 0 = λ i. NameFailsUnder m i i u f in
    no_fault_in_name m d n (subst P same c)

-- an offset that reads as a name meets no fault
pub name_not_both : (m : List ℕ) (p : ℕ) (n : List ℕ) (q : ℕ) (f : NameReadFault) → NameReads m p n q → NameFails m p f → ⊥
name_not_both m p n q f a b = no_fault_in_name m a.stands (omega arith) b

-- an offset meets at most one first fault
pub name_fault_unique : (m : List ℕ) (p : ℕ) (f g : NameReadFault) → NameFails m p f → NameFails m p g → f ≡ g
name_fault_unique m p f g a b = one_first_fault m a b

-- WHAT FUNCTIONS ARE PROVED BY

pub ruleset for_one_name_outcome = (name_not_both, name_fault_unique)
