-- What a record adds to the hearings.
use Rattle.std.proofs.lemmas.{Grind.{common_steps}, List.{append-nil}}
use Rattle.std.proofs.Common.{◌≡◌, ℕ, ◌+◌, List, [], ◌∷◌, length, map, length-append, Some, inl, inr, sym, ap, subst, arith}
use Rattle.std.specs.{Prelude.{Result, Ok, Err, IfOk, OnErr}, List.{All}}
use Rattle.mdns_capture.specs.declared.moment.Moment.{Moment}
use Rattle.dns_name.specs.{Name.{Extends}, NameAt.{NameReads}}
use Rattle.mdns_message.specs.{declared.fault.MessageFault.{MessageFault}, Resource.{Body}, declared.flat.FlatHearing.{FlatHearing}}
use Rattle.mdns_message.specs.declared.{record_at.Section.{Section}, record_type.RecordType.{RecordType}}
use Rattle.mdns_message.specs.declared.{record_at.RecordHeader.{RecordHeader}, flat.KnownName.{KnownName}}
use Rattle.mdns_message.specs.{Flat.{AreFlat, Fits, hearing_in}, Known.{AddsKnown}, FlatRecord.{AddsRecord}}
use Rattle.mdns_message.specs.{RecordAt.{DataReads, HeaderStands, RecordStands, header_of, heard_record, wanted}, Message.{Adds}}
use Rattle.mdns_message.proofs.FlatLemmas.{all_fit, all_kept, one_longer, one_more_fits, one_more_heard}

-- a wanted record's hearing has its data
pub record_hearing : (m : List ℕ) (section : Section) (at : ℕ) (owner : List ℕ) (after : ℕ) (header : RecordHeader)
    (k : RecordType) (b : Body) → NameReads m at owner after → HeaderStands m after → header ≡ header_of m after
    → wanted section header ≡ Some k → DataReads m header k b
    → RecordStands m section at (heard_record owner header b ∷ []) (header.offset + header.len)
record_hearing m section at owner after header k b reads stands e w d = grind arith

-- all fit the longer bytes
fits_after : (moment : Moment) (m : List ℕ) (section : Section) (at : ℕ) (before bytes : List ℕ)
    (old new : List FlatHearing) (r : Result ℕ MessageFault) → Extends before bytes → All (Fits before) old
    → IfOk r (AddsRecord moment m section at bytes old new) → OnErr r (new ≡ old) → All (Fits bytes) new
fits_after moment m section at before bytes old new (Ok next) begins fit adds none =
    elim adds [
      | inl same ↦ subst (All (Fits bytes)) (sym same.same) (all_fit before bytes old begins fit)
      | inr one ↦ one_more_fits before bytes old new _ begins fit one.adds
    ]
fits_after moment m section at before bytes old new (Err f) begins fit adds none =
    subst (All (Fits bytes)) (sym none) (all_fit before bytes old begins fit)

-- where there is none, there was none
none_before : (moment : Moment) (m : List ℕ) (section : Section) (at : ℕ) (bytes : List ℕ) (old new : List FlatHearing)
    (r : Result ℕ MessageFault) → IfOk r (AddsRecord moment m section at bytes old new) → OnErr r (new ≡ old)
    → new ≡ [] → length new ≡ length old
none_before moment m section at bytes old new (Ok next) adds none e = grind (arith, common_steps, one_longer)
none_before moment m section at bytes old new (Err f) adds none e = ap length none

-- and of no known names there was none
none_known : (old new : List KnownName) → AddsKnown old new → new ≡ [] → length new ≡ length old
none_known old new adds e = grind (arith, length-append)

-- where a hearing or a known name was added, the bytes are of use
pub flat_after : (moment : Moment) (m : List ℕ) (section : Section) (at : ℕ) (before bytes : List ℕ)
    (knew known : List KnownName) (old new : List FlatHearing) (r : Result ℕ MessageFault) → Extends before bytes
    → AddsKnown knew known → AreFlat before knew old → IfOk r (AddsRecord moment m section at bytes old new)
    → OnErr r (new ≡ old) → (length new ≡ length old → length known ≡ length knew → ⊥) → AreFlat bytes known new
flat_after moment m section at before bytes knew known old new r begins keeps flat adds none more =
    grind (arith, fits_after moment m section at before bytes old new r begins flat.fit adds none, none_before, none_known)

-- and the hearings are those of before, and the record's
pub told_after : (moment : Moment) (m : List ℕ) (section : Section) (at : ℕ) (before bytes : List ℕ)
    (knew : List KnownName) (old new : List FlatHearing) (r : Result ℕ MessageFault) → Extends before bytes
    → AreFlat before knew old → IfOk r (AddsRecord moment m section at bytes old new)
    → IfOk r (λ next. Adds moment (RecordStands m section) at (map (hearing_in before) old) (map (hearing_in bytes) new) next)
told_after moment m section at before bytes knew old new (Ok next) begins flat adds = grind (arith, all_kept, append-nil, one_more_heard)
told_after moment m section at before bytes knew old new (Err f) begins flat adds = tt
