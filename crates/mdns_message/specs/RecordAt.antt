-- Questions and resource records at an offset of a message m (RFC 1035, sections 4.1.2 and 4.1.3).
use Rattle.std.specs.Prelude.{◌≡◌, ◌≢◌, ◌⊎◌, ◌==◌, ℕ, ◌+◌, ◌<◌, ◌≤◌, List, [], ◌∷◌, length, drop, take, bit_and, Bool}
use Rattle.std.specs.Prelude.{not, if◌then◌else◌, Option, None, Some}
use Rattle.mdns_capture.specs.{Savefile.{number_at}, Frame.{word_at}, declared.savefile.Endianness.TheVariants.{Big}}
use Rattle.dns_name.specs.NameAt.{NameReads}
use Rattle.mdns_message.specs.declared.body.RecordData.TheVariants as body
use Rattle.mdns_message.specs.{declared.resource.Resource.{Resource}, declared.fault.MessageFault.{MessageFault}, Fault.{HasNameFault}}
use Rattle.mdns_message.specs.declared.record_at.{Section.{Section}, Section.TheVariants.{Authority}}
use Rattle.mdns_message.specs.{declared.record_type.RecordType.{RecordType}, Resource.{Body, numbered_type}}
use Rattle.mdns_message.specs.declared.record_at.RecordHeader.{RecordHeader}
use Rattle.mdns_message.specs.declared.fault.MessageFault.TheVariants as fault
use Rattle.mdns_message.specs.declared.record_type.RecordType.TheVariants as kind

-- the bytes of a question's type and class, and of a record's type, class, TTL and data length (RFC 1035, section 4.1)
abbrev pub question_size : ℕ
question_size = 4

abbrev pub record_header_size : ℕ
record_header_size = 10

-- a wanted record: its owner and data, its TTL, and its cache-flush bit
pub record HeardRecord : Type 0 where
  pub resource : Resource
  pub ttl : ℕ
  pub flush : Bool

-- at `offset` a name is read, and `Rest` holds of the name and the offset after it
pub record Named (m : List ℕ) (offset : ℕ) (Rest : List ℕ → ℕ → Type 0) : Type 0 where
  pub name : List ℕ
  pub after : ℕ
  pub reads : NameReads m offset name after
  pub rest : Rest name after

-- at `offset` a name fails with f, or it is read, and the part after it fails with f
abbrev pub NamedFails : List ℕ → ℕ → (ℕ → MessageFault → Type 0) → MessageFault → Type 0
NamedFails m offset RestFails f = HasNameFault m offset f ⊎ Named m offset (λ _ p. RestFails p f)

-- a question's type and class at p. A question has no hearing, so `told` is empty.
pub record QuestionRest (m : List ℕ) (p : ℕ) (told : List HeardRecord) (next : ℕ) : Type 0 where
  pub whole : p + question_size ≤ length m
  pub nothing : told ≡ []
  pub on : next ≡ p + question_size

-- a question: a name, a type and a class
abbrev pub QuestionStands : List ℕ → ℕ → List HeardRecord → ℕ → Type 0
QuestionStands m offset told next = Named m offset (λ _ p. QuestionRest m p told next)

-- the item of `size` bytes at p passes the message's end, which is the fault `Cut`
abbrev pub IsCut : List ℕ → ℕ → ℕ → MessageFault → Type 0
IsCut m size p f = (length m < p + size) × (f ≡ fault.Cut p)

-- reading a question at `offset` meets f first
abbrev pub QuestionFails : List ℕ → ℕ → MessageFault → Type 0
QuestionFails m offset f = NamedFails m offset (IsCut m question_size) f

-- the header part of a record whose owner ends before offset p, and where its data begins
abbrev pub header_of : List ℕ → ℕ → RecordHeader
header_of m p =
    record {
      number = word_at p m;
      class = word_at (p + 2) m;
      ttl = number_at Big 4 (p + 4) m;
      offset = p + record_header_size;
      len = word_at (p + 8) m;
    }

-- the bits of a class that say which it is, and above them the cache-flush bit (RFC 6762, section 10.2)
abbrev pub class_bits : ℕ
class_bits = 0x7fff

abbrev pub flush_bit : ℕ
flush_bit = 0x8000

-- the type of a wanted record: one of the types that are heard, of class IN, which is 1, among the answers or
-- additional records. Every other record has none.
abbrev pub wanted : Section → RecordHeader → Option RecordType
wanted Authority header = None
wanted _ header = if bit_and header.class class_bits == 1 then numbered_type header.number else None

-- the bytes of a record's data
abbrev pub data_in : List ℕ → RecordHeader → List ℕ
data_in m header = take header.len (drop header.offset m)

-- after `skipped` bytes of the data comes the name n, which ends exactly where the data ends
abbrev pub DataNameReads : List ℕ → RecordHeader → ℕ → List ℕ → Type 0
DataNameReads m header skipped n =
    (skipped < header.len) × NameReads m (header.offset + skipped) n (header.offset + header.len)

-- the data of a wanted record has the form of its type, and its value is b
abbrev pub DataReads : List ℕ → RecordHeader → RecordType → Body → Type 0
DataReads m header kind.A b = (header.len ≡ 4) × (b ≡ body.A (data_in m header))
DataReads m header kind.Aaaa b = (header.len ≡ 16) × (b ≡ body.Aaaa (data_in m header))
DataReads m header kind.Txt b = b ≡ body.Txt (data_in m header)
DataReads m header kind.Ptr b = (n : List ℕ) × DataNameReads m header 0 n × (b ≡ body.Ptr n)
DataReads m header kind.Srv b =
    (n : List ℕ) × DataNameReads m header 6 n
    × (b ≡ body.Srv (word_at header.offset m) (word_at (header.offset + 2) m) (word_at (header.offset + 4) m) n)

-- the name at p that is to end a record's data fails with f, or reads and ends elsewhere than the data
abbrev pub LastNameFails : List ℕ → RecordHeader → ℕ → MessageFault → Type 0
LastNameFails m header p f =
    HasNameFault m p f
    ⊎ ((n : List ℕ) × (q : ℕ) × NameReads m p n q × (q ≢ header.offset + header.len) × (f ≡ fault.Body header.offset))

-- data that has to end with a name after `skipped` bytes fails with f: it has no byte after these, or the name fails
abbrev pub DataNameFails : List ℕ → RecordHeader → ℕ → MessageFault → Type 0
DataNameFails m header skipped f =
    ((header.len ≤ skipped) × (f ≡ fault.Body header.offset))
    ⊎ ((skipped < header.len) × LastNameFails m header (header.offset + skipped) f)

-- reading the data of a wanted record meets f first
abbrev pub DataFails : List ℕ → RecordHeader → RecordType → MessageFault → Type 0
DataFails m header kind.A f = (header.len ≢ 4) × (f ≡ fault.Body header.offset)
DataFails m header kind.Aaaa f = (header.len ≢ 16) × (f ≡ fault.Body header.offset)
DataFails m header kind.Txt f = ⊥
DataFails m header kind.Ptr f = DataNameFails m header 0 f
DataFails m header kind.Srv f = DataNameFails m header 6 f

-- a wanted record as it is heard
abbrev pub heard_record : List ℕ → RecordHeader → Body → HeardRecord
heard_record owner header b =
    record { resource = record { owner = owner; body = b }; ttl = header.ttl; flush = not (bit_and header.class flush_bit == 0) }

-- `told` is the one heard record of a wanted record of that type, and empty for a record that isn't wanted
abbrev pub RecordTells : List ℕ → List ℕ → RecordHeader → Option RecordType → List HeardRecord → Type 0
RecordTells m owner header None told = told ≡ []
RecordTells m owner header (Some k) told = (b : Body) × DataReads m header k b × (told ≡ heard_record owner header b ∷ [])

-- the data of a wanted record fails with f; that of another record isn't read, so it can't fail
abbrev pub RecordTellingFails : List ℕ → RecordHeader → Option RecordType → MessageFault → Type 0
RecordTellingFails m header None f = ⊥
RecordTellingFails m header (Some k) f = DataFails m header k f

-- the header part at p and the data after it are within the message
pub record HeaderStands (m : List ℕ) (p : ℕ) : Type 0 where
  pub whole : p + record_header_size ≤ length m
  pub within : p + record_header_size + word_at (p + 8) m ≤ length m

-- the header part at p passes the message's end, or the data after it does
abbrev pub HeaderFails : List ℕ → ℕ → MessageFault → Type 0
HeaderFails m p f = IsCut m record_header_size p f
    ⊎ ((p + record_header_size ≤ length m) × IsCut m (word_at (p + 8) m) (p + record_header_size) f)

-- the part of a record after its owner: its header part and its data
pub record RecordRest (m : List ℕ) (section : Section) (owner : List ℕ) (p : ℕ) (told : List HeardRecord) (next : ℕ) : Type 0 where
  pub header : HeaderStands m p
  pub tells : RecordTells m owner (header_of m p) (wanted section (header_of m p)) told
  pub on : next ≡ p + record_header_size + word_at (p + 8) m

-- a record of a section: its owner, its header part and its data
abbrev pub RecordStands : List ℕ → Section → ℕ → List HeardRecord → ℕ → Type 0
RecordStands m section offset told next = Named m offset (λ owner p. RecordRest m section owner p told next)

-- the part of a record after its owner fails with f: its header part, or the data of a wanted record
abbrev pub RecordRestFails : List ℕ → Section → ℕ → MessageFault → Type 0
RecordRestFails m section p f =
    HeaderFails m p f ⊎ (HeaderStands m p × RecordTellingFails m (header_of m p) (wanted section (header_of m p)) f)

-- reading a record of a section at `offset` meets f first
abbrev pub RecordFails : List ℕ → Section → ℕ → MessageFault → Type 0
RecordFails m section offset f = NamedFails m offset (RecordRestFails m section) f

-- a failed allocation, or a fault of `Fails`
abbrev pub MemoryOr : (MessageFault → Type 0) → MessageFault → Type 0
MemoryOr Fails f = (f ≡ fault.Memory) ⊎ Fails f
