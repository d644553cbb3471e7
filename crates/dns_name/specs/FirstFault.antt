-- The first fault in reading order.
use Rattle.std.specs.Prelude.{◌≡◌, ℕ, ◌+◌, ◌<◌, ◌≤◌, List, length, slice_index}
use Rattle.dns_name.specs.{Name.{longest_label, longest_name}, NameAt.{least_pointer, LabelAt, PointerAt}}
use Rattle.dns_name.specs.declared.fault.{NameReadFault.{NameReadFault}, NameReadFault.TheVariants.{Cut, Label, Pointer, LongName}}

-- reading a name at offset p of m, in a run whose pointers must lead before `bound`, with u octets of
-- the name before p, meets the fault f first
pub data NameFailsUnder (m : List ℕ) : ℕ → ℕ → ℕ → NameReadFault → Type 0 where
  -- the message ends before p
  no_octet : {p bound u : ℕ} {f : NameReadFault} → length m ≤ p → f ≡ Cut p → NameFailsUnder m p bound u f
  -- a label of k octets passes the message's end
  label_cut : {p bound u : ℕ} {f : NameReadFault} (k : ℕ) → p < length m → slice_index m p ≡ k → 1 ≤ k
      → k ≤ longest_label → length m < p + 1 + k → f ≡ Cut p → NameFailsUnder m p bound u f
  -- a label of k octets with which the name, its final zero included, has more than 256 octets
  label_long : {p bound u : ℕ} {f : NameReadFault} (k : ℕ) → LabelAt m p k → longest_name < u + k + 2 → f ≡ LongName p
      → NameFailsUnder m p bound u f
  -- an octet that begins neither a label nor a pointer
  label_form : {p bound u : ℕ} {f : NameReadFault} → p < length m → longest_label < slice_index m p
      → slice_index m p < least_pointer → f ≡ Label p → NameFailsUnder m p bound u f
  -- the second byte of a pointer is missing
  pointer_cut : {p bound u : ℕ} {f : NameReadFault} → p < length m → least_pointer ≤ slice_index m p → length m < p + 2
      → f ≡ Cut p → NameFailsUnder m p bound u f
  -- a pointer that doesn't lead before its run
  pointer_target : {p bound u : ℕ} {f : NameReadFault} (t : ℕ) → PointerAt m p t → bound ≤ t → f ≡ Pointer p → NameFailsUnder m p bound u f
  -- after a whole label that isn't too long
  after_label : {p bound u : ℕ} {f : NameReadFault} (k : ℕ) → LabelAt m p k → u + k + 2 ≤ longest_name
      → NameFailsUnder m (p + 1 + k) bound (u + k + 1) f → NameFailsUnder m p bound u f
  -- where a pointer leads, a new run
  after_pointer : {p bound u : ℕ} {f : NameReadFault} (t : ℕ) → PointerAt m p t → t < bound → NameFailsUnder m t t u f
      → NameFailsUnder m p bound u f

-- reading a name at offset p of m meets the fault f first
abbrev pub NameFails : List ℕ → ℕ → NameReadFault → Type 0
NameFails m p f = NameFailsUnder m p p 0 f
