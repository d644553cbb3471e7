-- A name at an offset of a message, with its pointers followed (RFC 1035, section 4.1.4).
use Rattle.std.specs.Prelude.{◌≡◌, ℕ, ◌+◌, ◌%◌, ◌<◌, ◌≤◌, List, [], ◌∷◌, ◌++◌, length, drop, slice_index, slice_range}
use Rattle.byteorder.specs.Endian.{big_number}
use Rattle.dns_name.specs.{Name.{longest_label, longest_name}, declared.name_at.NameStep.{NameStep}}
use Rattle.dns_name.specs.declared.name_at.NameStep.TheVariants.{Root, Label, Pointer}

-- the least first byte of a pointer: its two top bits are 1 (RFC 1035, section 4.1.4)
abbrev pub least_pointer : ℕ
least_pointer = 0xC0

-- at offset p of m is the zero octet that ends a name
pub record RootAt (m : List ℕ) (p : ℕ) : Type 0 where
  pub whole : p < length m
  pub octet : slice_index m p ≡ 0

-- at offset p of m is a label: its length octet, and then k octets (RFC 1035, section 3.1)
pub record LabelAt (m : List ℕ) (p k : ℕ) : Type 0 where
  pub whole : p + 1 + k ≤ length m
  pub octet : slice_index m p ≡ k
  pub some : 1 ≤ k
  pub few : k ≤ longest_label

-- at offset p of m is a pointer: two bytes, the first with both top bits, whose other 14 bits are the target t
pub record PointerAt (m : List ℕ) (p t : ℕ) : Type 0 where
  pub whole : p + 2 ≤ length m
  pub octet : least_pointer ≤ slice_index m p
  pub target : t ≡ big_number 2 (drop p m) % 0x4000

-- at offset p of m is the name with the wire form n, and q is the offset after it: after its zero octet, or after
-- its first pointer. The first pointer leads before `bound`, and each other one before the run that it ends.
pub data NameStands (m : List ℕ) : ℕ → ℕ → List ℕ → ℕ → Type 0 where
  root : {p bound : ℕ} {n : List ℕ} {q : ℕ} → RootAt m p → n ≡ 0 ∷ [] → q ≡ p + 1 → NameStands m p bound n q
  label : {p bound : ℕ} {n : List ℕ} {q : ℕ} (k : ℕ) (rest : List ℕ) → LabelAt m p k
      → NameStands m (p + 1 + k) bound rest q → n ≡ slice_range m p (p + 1 + k) ++ rest → NameStands m p bound n q
  pointer : {p bound : ℕ} {n : List ℕ} {q : ℕ} (t after : ℕ) → PointerAt m p t → t < bound → NameStands m t t n after
      → q ≡ p + 2 → NameStands m p bound n q

-- the name n is read at offset p of m, and q is the offset after it: its first run begins at p, and it has at
-- most 256 octets with the final zero (RFC 6762, Appendix C)
pub record NameReads (m : List ℕ) (p : ℕ) (n : List ℕ) (q : ℕ) : Type 0 where
  pub stands : NameStands m p p n q
  pub short : length n ≤ longest_name

-- `bytes` is `before`, followed by the name that is read at offset p of m; q is the offset after it
pub record ReadsOnto (m : List ℕ) (p : ℕ) (before bytes : List ℕ) (q : ℕ) : Type 0 where
  pub name : List ℕ
  pub reads : NameReads m p name q
  pub whole : bytes ≡ before ++ name

-- at offset p of m, with u octets of the name before it, is a label that ends before the offset `end`; with it and
-- a final zero the name has at most 256 octets
abbrev pub LabelEnds : List ℕ → ℕ → ℕ → ℕ → Type 0
LabelEnds m p u end = (k : ℕ) × LabelAt m p k × (u + k + 2 ≤ longest_name) × (end ≡ p + 1 + k)

-- at offset p of m is a pointer to the offset t, which is before `bound`
abbrev pub PointerLeads : List ℕ → ℕ → ℕ → ℕ → Type 0
PointerLeads m p bound t = PointerAt m p t × (t < bound)

-- at offset p of m, with u octets of the name before it, is this step of a name
abbrev pub StepStands : List ℕ → ℕ → ℕ → ℕ → NameStep → Type 0
StepStands m p bound u Root = RootAt m p
StepStands m p bound u (Label end) = LabelEnds m p u end
StepStands m p bound u (Pointer target) = PointerLeads m p bound target
