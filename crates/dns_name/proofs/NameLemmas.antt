-- Names at an offset: where they end, how long they are, and that at most one begins at an offset.
use Rattle.std.proofs.Common.{◌≡◌, ℕ, ◌+◌, ◌<◌, ◌≤◌, List, length, refl, sym, ◌∙◌, subst, arith, length-append, length-take, length-drop}
use Rattle.std.specs.Prelude.{slice_range}
use Rattle.dns_name.specs.{NameAt.{NameStands, NameReads, LabelAt, PointerAt, PointerLeads}, NameAt.NameStands.{root, label, pointer}}
use Rattle.std.proofs.Common.{rules}

-- labels at one offset have one length
pub label_unique : (m : List ℕ) (p j k : ℕ) → LabelAt m p j → LabelAt m p k → j ≡ k
label_unique m p j k a b = sym a.octet ∙ b.octet

-- pointers at one offset have one target
pub pointer_unique : (m : List ℕ) (p t o : ℕ) → PointerAt m p t → PointerAt m p o → t ≡ o
pointer_unique m p t o a b = a.target ∙ sym b.target

-- a label with its length octet
pub label_length : (m : List ℕ) (p k : ℕ) → LabelAt m p k → length (slice_range m p (p + 1 + k)) ≡ k + 1
label_length m p k a = simp (length-take, length-drop) (omega arith)

-- a name has an octet at least
pub name_some : (m : List ℕ) {p s : ℕ} {n : List ℕ} {q : ℕ} → NameStands m p s n q → 1 ≤ length n
name_some m (root a e g) = rw e (omega arith)
name_some m (label k rest a d e) = grind (arith, label_length, length-append)
name_some m (pointer t after a h d g) = name_some m d

-- the offset after a name is greater than its own, and within the message
pub name_onward : (m : List ℕ) {p s : ℕ} {n : List ℕ} {q : ℕ} → NameStands m p s n q → p < q
name_onward m (root a e g) = omega arith
name_onward m (label k rest a d e) = let h : _ < _ = name_onward m d in omega arith
name_onward m (pointer t after a h d g) = omega arith

pub name_within : (m : List ℕ) {p s : ℕ} {n : List ℕ} {q : ℕ} → NameStands m p s n q → q ≤ length m
name_within m (root a e g) = omega arith
name_within m (label k rest a d e) = name_within m d
name_within m (pointer t after a h d g) = omega arith

-- at one offset and under one bound is at most one name
pub one_name_stands : (m : List ℕ) {p s : ℕ} {n o : List ℕ} {q r : ℕ} → NameStands m p s n q → NameStands m p s o r → (n ≡ o) × (q ≡ r)
one_name_stands m (root a e g) (root b d h) = (cc, cc)
one_name_stands m (root a e g) (label k rest b d h) = absurd (omega arith)
one_name_stands m (root a e g) (pointer t after b i d h) = absurd (omega arith)
one_name_stands m (label k rest a d e) (root b i h) = absurd (omega arith)
one_name_stands m {p} {s} {r = r} (label k rest a d e) (label j other b c h) =
    let same : j ≡ k = label_unique m p j k b a in
    let P : ℕ → Type 0 = λ i. NameStands m (p + 1 + i) s other r in
    let ends = one_name_stands m d (subst P same c) in
    (cc, ends.1)
one_name_stands m (label k rest a d e) (pointer t after b i c h) = absurd (omega arith)
one_name_stands m (pointer t after a i d e) (root b j h) = absurd (omega arith)
one_name_stands m (pointer t after a i d e) (label k rest b c h) = absurd (omega arith)
one_name_stands m {o = o} (pointer t after a i d e) (pointer u beyond b j c h) =
    let same : u ≡ t = pointer_unique m _ u t b a in
    let P : ℕ → Type 0 = λ x. NameStands m x x o beyond in
    let ends = one_name_stands m d (subst P same c) in
    (ends.0, cc)

-- the name where a pointer leads is read at the pointer
pub name_pointed : (m : List ℕ) (p t : ℕ) (n : List ℕ) (after : ℕ) → PointerLeads m p p t → NameReads m t n after
    → NameReads m p n (p + 2)
name_pointed m p t n after (a, leads) r = record { stands = pointer t after a leads r.stands refl; short = r.short }

target_stands : (m : List ℕ) {p t : ℕ} {n : List ℕ} {q : ℕ} → PointerAt m p t → NameStands m p p n q
    → (after : ℕ) × NameStands m t t n after
target_stands m b (root a e g) = absurd (omega arith)
target_stands m b (label k rest a d e) = absurd (omega arith)
target_stands m {p} {t} {n} b (pointer u after a leads d e) = grind (arith, pointer_unique)

-- and the name that is read at the pointer is the one where it leads
pub name_at_target : (m : List ℕ) (p t : ℕ) (n : List ℕ) (q : ℕ) → PointerLeads m p p t → NameReads m p n q
    → (after : ℕ) × NameReads m t n after
name_at_target m p t n q (a, leads) r =
    let stands = target_stands m a r.stands in
    (stands.0, record { stands = stands.1; short = r.short })

-- an offset reads as at most one name
pub name_unique : (m : List ℕ) (p : ℕ) (n o : List ℕ) (q r : ℕ) → NameReads m p n q → NameReads m p o r → (n ≡ o) × (q ≡ r)
name_unique m p n o q r a b = one_name_stands m a.stands b.stands
