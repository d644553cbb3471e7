-- Hearings in flat buffers: their values, given the bytes that hold their names and texts.
use Rattle.std.specs.{Prelude.{◌≡◌, ℕ, ◌≤◌, List, [], ◌∷◌, ◌++◌, length, slice_range}, List.{All}}
use Rattle.dns_name.specs.Name.{IsWire}
use Rattle.mdns_message.specs.{Resource.{Body, data_by}, declared.hearing.Hearing.{Hearing}, declared.flat.ByteRange.{ByteRange}}
use Rattle.mdns_message.specs.declared.{body.RecordData.{RecordData}, flat.FlatHearing.{FlatHearing}, flat.KnownName.{KnownName}}
use Rattle.mdns_message.specs.declared.body.RecordData.TheVariants as body

-- the data of a record, its name and text as ranges of bytes
abbrev pub FlatBody : Type 0
FlatBody = RecordData ByteRange ByteRange

-- the bytes of a span
abbrev pub bytes_in : List ℕ → ByteRange → List ℕ
bytes_in bytes span = slice_range bytes span.begin span.end

-- the value of flat data, whose name or text is in the bytes
abbrev pub body_in : List ℕ → FlatBody → Body
body_in bytes = data_by (bytes_in bytes) (bytes_in bytes)

-- the value of a flat hearing, whose names and text are in the bytes
abbrev pub hearing_in : List ℕ → FlatHearing → Hearing
hearing_in bytes h =
    record {
      moment = h.moment;
      heard = record { owner = bytes_in bytes h.owner; body = body_in bytes h.body };
      ttl = h.ttl;
      flush = h.flush;
    }

-- the span is a part of the bytes
pub record IsWithin (bytes : List ℕ) (span : ByteRange) : Type 0 where
  pub ordered : span.begin ≤ span.end
  pub within : span.end ≤ length bytes

-- the span is a part of the bytes, which is the wire form of a name
pub record IsNameIn (bytes : List ℕ) (span : ByteRange) : Type 0 where
  pub part : IsWithin bytes span
  pub wire : IsWire (bytes_in bytes span)

-- names and texts of the data are parts of the bytes
abbrev pub BodyFits : List ℕ → FlatBody → Type 0
BodyFits bytes (body.A address) = Unit {0}
BodyFits bytes (body.Aaaa address) = Unit {0}
BodyFits bytes (body.Ptr target) = IsNameIn bytes target
BodyFits bytes (body.Txt strings) = IsWithin bytes strings
BodyFits bytes (body.Srv priority weight port target) = IsNameIn bytes target

-- names and texts of the hearing are parts of the bytes
pub record Fits (bytes : List ℕ) (h : FlatHearing) : Type 0 where
  pub owner : IsNameIn bytes h.owner
  pub body : BodyFits bytes h.body

-- hearings fit the bytes, and where there are no hearing and no known name there are no bytes
pub record AreFlat (bytes : List ℕ) (known : List KnownName) (hs : List FlatHearing) : Type 0 where
  pub fit : All (Fits bytes) hs
  pub none : hs ≡ [] → known ≡ [] → bytes ≡ []

-- `new` is `old` and one more hearing, which fits the bytes and has the value `this`
pub record AddsFlat (bytes : List ℕ) (old new : List FlatHearing) (this : Hearing) : Type 0 where
  pub flat : FlatHearing
  pub fits : Fits bytes flat
  pub same : hearing_in bytes flat ≡ this
  pub added : new ≡ old ++ flat ∷ []

-- the bytes of the span are `these`
pub record HoldsBytes (bytes : List ℕ) (span : ByteRange) (these : List ℕ) : Type 0 where
  pub part : IsWithin bytes span
  pub same : bytes_in bytes span ≡ these
