-- Where chains of pointers lead, each pointer at the target of the one before (RFC 1035, section 4.1.4).
use Rattle.std.specs.Prelude.{◌≡◌, ℕ, ◌<◌, List, length, slice_index}
use Rattle.dns_name.specs.{NameAt.{PointerAt, PointerLeads}, declared.name_at.NameReader.{NameReader}}

-- a chain of pointers of m, each leading before its own offset, leads from offset p to offset e: none where p is e,
-- or a pointer at p and a chain from its target
pub data PointersLead (m : List ℕ) : ℕ → ℕ → Type 0 where
  there : {p e : ℕ} → e ≡ p → PointersLead m p e
  along : {p e : ℕ} (t : ℕ) → PointerAt m p t → t < p → PointersLead m t e → PointersLead m p e

-- the chain from p ends at e: no pointer at e leads before e
pub record PointersEnd (m : List ℕ) (p e : ℕ) : Type 0 where
  pub lead : PointersLead m p e
  pub last : (t : ℕ) → PointerLeads m e e t → ⊥

-- for each of the first offsets of m, the entry of `ends` at that index is the end of the chain of pointers that
-- begins there
pub record EndsHold (m ends : List ℕ) : Type 0 where
  pub each : (p : ℕ) → p < length ends → PointersEnd m p (slice_index ends p)

-- a reader of the names of m: the ends of chains that it remembers are those of m
abbrev pub IsReaderOf : List ℕ → NameReader → Type 0
IsReaderOf m reader = EndsHold m reader.pointers.ends.items
