-- What a record of a message adds to hearings in flat buffers.
use Rattle.std.specs.Prelude.{◌≡◌, ◌⊎◌, ℕ, List, [], ◌∷◌}
use Rattle.mdns_capture.specs.declared.moment.Moment.{Moment}
use Rattle.mdns_message.specs.{declared.flat.ByteRange.{ByteRange}, Flat.{FlatBody, AddsFlat, BodyFits, IsNameIn, body_in, bytes_in}}
use Rattle.mdns_message.specs.declared.{flat.FlatHearing.{FlatHearing}, record_at.RecordHeader.{RecordHeader}, record_at.Section.{Section}}
use Rattle.mdns_message.specs.{declared.record_type.RecordType.{RecordType}, Message.{hearing_of}}
use Rattle.mdns_message.specs.RecordAt.{DataNameReads, DataReads, HeardRecord, RecordStands}
use Rattle.dns_name.specs.NameAt.{NameReads}

-- the bytes of the span are the name that is read at `offset` of m; `after` is the offset after it
pub record HoldsName (bytes m : List ℕ) (offset : ℕ) (span : ByteRange) (after : ℕ) : Type 0 where
  pub fits : IsNameIn bytes span
  pub reads : NameReads m offset (bytes_in bytes span) after

-- the bytes of the span are the name that ends the data of a record, after `skipped` bytes of it
pub record HoldsLastName (bytes m : List ℕ) (header : RecordHeader) (skipped : ℕ) (span : ByteRange) : Type 0 where
  pub fits : IsNameIn bytes span
  pub reads : DataNameReads m header skipped (bytes_in bytes span)

-- the value of the flat data is the data of a record of type `k`
pub record HoldsData (bytes m : List ℕ) (header : RecordHeader) (k : RecordType) (flat : FlatBody) : Type 0 where
  pub fits : BodyFits bytes flat
  pub reads : DataReads m header k (body_in bytes flat)

-- at `offset` is a record that isn't wanted, and no hearing was added
pub record AddsNone (m : List ℕ) (section : Section) (offset : ℕ) (old new : List FlatHearing) (next : ℕ) : Type 0 where
  pub stands : RecordStands m section offset [] next
  pub same : new ≡ old

-- at `offset` is a wanted record, and its hearing was added
pub record AddsOne (moment : Moment) (m : List ℕ) (section : Section) (offset : ℕ) (bytes : List ℕ)
    (old new : List FlatHearing) (next : ℕ) : Type 0 where
  pub told : HeardRecord
  pub stands : RecordStands m section offset (told ∷ []) next
  pub adds : AddsFlat bytes old new (hearing_of moment told)

-- at `offset` is a record, and its hearing was added if it is wanted
abbrev pub AddsRecord : Moment → List ℕ → Section → ℕ → List ℕ → List FlatHearing → List FlatHearing → ℕ → Type 0
AddsRecord moment m section offset bytes old new next =
    AddsNone m section offset old new next ⊎ AddsOne moment m section offset bytes old new next
