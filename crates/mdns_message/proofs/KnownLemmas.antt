-- Known names stay known while bytes are added, and a pointer to one of them is that name.
use Rattle.std.proofs.lemmas.{Grind.{common_steps}, List.Elements.{All-contains, All-push, All-weaker}}
use Rattle.std.proofs.Common.{arith, ◌≡◌, ℕ, ◌+◌, List, [], ◌∷◌, ◌++◌, sym, subst}
use Rattle.std.specs.List.{All, Contains}
use Rattle.dns_name.specs.{Name.{Extends}, NameAt.{PointerLeads}}
use Rattle.dns_name.proofs.NameLemmas.{name_at_target, name_pointed}
use Rattle.mdns_message.specs.{declared.flat.KnownName.{KnownName}, declared.flat.ByteRange.{ByteRange}, FlatRecord.{HoldsName}}
use Rattle.mdns_message.specs.Known.{BeginsAt, IsKnown}
use Rattle.mdns_message.proofs.FlatLemmas.{bytes_kept, name_kept}

-- a name that is held stays held
held_kept : (m before bytes : List ℕ) (at after : ℕ) (s : ByteRange) → Extends before bytes → HoldsName before m at s after
    → HoldsName bytes m at s after
held_kept m before bytes at after s b h = grind (arith, name_kept before bytes s b h.fits, bytes_kept before bytes s b h.fits.part)

-- known names stay known
pub known_kept : (m before bytes : List ℕ) (known : List KnownName) → Extends before bytes
    → All (IsKnown m before) known → All (IsKnown m bytes) known
known_kept m before bytes known b all = grind (arith, common_steps, All-weaker, held_kept)

-- a name that is held at an offset is known where it begins
known_one : (m bytes : List ℕ) (at offset after : ℕ) (s : ByteRange) → BeginsAt m at offset → HoldsName bytes m at s after
    → IsKnown m bytes (record { offset = offset; name = s })
known_one m bytes at offset after s begins h = grind (arith, name_at_target)

-- and with it one more name is known
pub known_more : (m before bytes : List ℕ) (known longer : List KnownName) (at offset after : ℕ) (s : ByteRange)
    → Extends before bytes → All (IsKnown m before) known → BeginsAt m at offset → HoldsName bytes m at s after
    → longer ≡ known ++ record { offset = offset; name = s } ∷ [] → All (IsKnown m bytes) longer
known_more m before bytes known longer at offset after s b all begins h added =
    subst (All (IsKnown m bytes)) (sym added)
    (All-push (IsKnown m bytes) known _ (known_kept m before bytes known b all)
    (known_one m bytes at offset after s begins h))

-- a pointer to a known name is that name
pub known_pointed : (m bytes : List ℕ) (known : List KnownName) (at target : ℕ) (s : ByteRange)
    → All (IsKnown m bytes) known → PointerLeads m at at target → Contains known (record { offset = target; name = s })
    → HoldsName bytes m at s (at + 2)
known_pointed m bytes known at target s all leads among = grind (arith, All-contains, name_pointed)
