-- The names of a message that are known, and hearings with the buffer that holds their names and texts.
use Rattle.std.specs.{Prelude.{◌≡◌, ◌⊎◌, ℕ, List, ◌++◌}, List.{All}}
use Rattle.dns_name.specs.NameAt.{PointerLeads}
use Rattle.mdns_message.specs.declared.{flat.Buffer.{Buffer}, flat.KnownName.{KnownName}, hearing.Hearing.{Hearing}}
use Rattle.mdns_message.specs.FlatRecord.{HoldsName}

-- the bytes of a known name are the name that is read at its offset of m
pub record IsKnown (m bytes : List ℕ) (known : KnownName) : Type 0 where
  pub after : ℕ
  pub holds : HoldsName bytes m known.offset known.name after

-- a buffer of the names of m: those that it knows are read at their offsets of m
abbrev pub IsBufferOf : List ℕ → Buffer → Type 0
IsBufferOf m buffer = All (IsKnown m buffer.bytes.items) buffer.known.items

-- `new` is `old` and more known names
pub record AddsKnown (old new : List KnownName) : Type 0 where
  pub more : List KnownName
  pub whole : new ≡ old ++ more

-- `offset` is `at`, or the target of the pointer at `at`
abbrev pub BeginsAt : List ℕ → ℕ → ℕ → Type 0
BeginsAt m at offset = (offset ≡ at) ⊎ PointerLeads m at at offset

-- hearings, and the buffer that holds their names and texts
pub record Held : Type 0 where
  pub hearings : List Hearing
  pub buffer : Buffer
