-- Whole messages (RFC 1035, section 4.1; RFC 6762, section 18). Offsets count from 0, from the message's
-- first byte.
use Rattle.std.specs.Prelude.{◌≡◌, ◌≢◌, ◌⊎◌, ℕ, zero, suc, ◌<◌, ◌≤◌, List, [], ◌++◌, length, map, bit_and}
use Rattle.mdns_capture.specs.{declared.moment.Moment.{Moment}, Frame.{word_at}}
use Rattle.mdns_message.specs.declared.{hearing.Hearing.{Hearing}, record_at.Section.{Section}}
use Rattle.mdns_message.specs.declared.record_at.Section.TheVariants.{Answer, Authority, Additional}
use Rattle.mdns_message.specs.RecordAt.{HeardRecord, QuestionStands, RecordStands}

-- the bytes of a message's header (RFC 1035, section 4.1.1)
abbrev pub header_size : ℕ
header_size = 12

-- the most hearings of a message: its header counts the answers and the additional records in 16 bits each
abbrev pub most_hearings : ℕ
most_hearings = 131070

-- fewer bytes than a header has
abbrev pub IsShort : List ℕ → Type 0
IsShort m = length m < header_size

-- the bits of a header's second word: QR, and OPCODE and RCODE (RFC 1035, section 4.1.1)
abbrev pub response_bit : ℕ
response_bit = 0x8000

abbrev pub opcode_and_rcode : ℕ
opcode_and_rcode = 0x780f

-- QR is 0 (RFC 6762, section 18.2)
abbrev pub IsQuery : List ℕ → Type 0
IsQuery m = (header_size ≤ length m) × (bit_and (word_at 2 m) response_bit ≡ 0)

-- QR is 1, and OPCODE or RCODE isn't 0 (RFC 6762, sections 18.3 and 18.11)
abbrev pub IsIgnored : List ℕ → Type 0
IsIgnored m = (header_size ≤ length m) × (bit_and (word_at 2 m) response_bit ≢ 0) × (bit_and (word_at 2 m) opcode_and_rcode ≢ 0)

-- a header with QR 1, OPCODE 0 and RCODE 0
abbrev pub HasHeader : List ℕ → Type 0
HasHeader m = (header_size ≤ length m) × (bit_and (word_at 2 m) response_bit ≢ 0) × (bit_and (word_at 2 m) opcode_and_rcode ≡ 0)

-- the hearing of a record in a packet of that moment
abbrev pub hearing_of : Moment → HeardRecord → Hearing
hearing_of moment heard = record { moment = moment; heard = heard.resource; ttl = heard.ttl; flush = heard.flush }

-- the offset in a header of the count of a section's records (RFC 1035, section 4.1.1)
abbrev pub count_offset : Section → ℕ
count_offset Answer = 6
count_offset Authority = 8
count_offset Additional = 10

-- ITEMS, ONE AFTER ANOTHER

-- An item is a relation between the offset where it begins, the values that are read of it (`told`), and the offset after
-- it. Its faults are a relation between the offset where it begins and the fault that reading it meets first.

-- from `start` on are `count` items one after another, with the values `told`; `next` is the offset after them. The last of
-- `suc count` items is the one after the first `count`.
abbrev pub Run : {A : Type 0} → (ℕ → List A → ℕ → Type 0) → ℕ → ℕ → List A → ℕ → Type 0
Run Item zero start told next = (told ≡ []) × (next ≡ start)
Run {A} Item (suc count) start told next =
    (front : List A) × (offset : ℕ) × (last : List A) × Run Item count start front offset × Item offset last next × (told ≡ front ++ last)

-- of `count` items from `start` on, some are whole, and the next one fails with f
pub record RunFails {A F : Type 0} (Item : ℕ → List A → ℕ → Type 0) (Fails : ℕ → F → Type 0) (count start : ℕ) (f : F) : Type 0 where
  pub stand : ℕ
  pub fewer : stand < count
  pub told : List A
  pub offset : ℕ
  pub run : Run Item stand start told offset
  pub fails : Fails offset f

-- one item, and another after it
pub record Pair {A : Type 0} (First Second : ℕ → List A → ℕ → Type 0) (start : ℕ) (told : List A) (next : ℕ) : Type 0 where
  pub front : List A
  pub offset : ℕ
  pub rest : List A
  pub first : First start front offset
  pub second : Second offset rest next
  pub all : told ≡ front ++ rest

-- the first of two items fails, or it is whole and the second fails
abbrev pub PairFails : {A F : Type 0} → (ℕ → List A → ℕ → Type 0) → (ℕ → F → Type 0) → (ℕ → F → Type 0) → ℕ → F → Type 0
PairFails {A} First FirstFails SecondFails start f =
    FirstFails start f ⊎ ((front : List A) × (offset : ℕ) × First start front offset × SecondFails offset f)

-- SECTIONS

-- the sections, each with as many items as the header says: the questions, and the answers, authority and additional records
abbrev pub QuestionSection : List ℕ → ℕ → List HeardRecord → ℕ → Type 0
QuestionSection m start told next = Run (QuestionStands m) (word_at 4 m) start told next

abbrev pub RecordSection : List ℕ → Section → ℕ → List HeardRecord → ℕ → Type 0
RecordSection m section start told next = Run (RecordStands m section) (word_at (count_offset section) m) start told next

-- all four, one after another
abbrev pub Sections : List ℕ → ℕ → List HeardRecord → ℕ → Type 0
Sections m = Pair (Pair (Pair (QuestionSection m) (RecordSection m Answer)) (RecordSection m Authority)) (RecordSection m Additional)

-- m reads, with the hearings hs: a good header, the four sections, and any rest. The hearings are those
-- of the wanted records, in order; questions and authority records have none.
pub record MessageReads (moment : Moment) (m : List ℕ) (hs : List Hearing) : Type 0 where
  pub header : HasHeader m
  pub told : List HeardRecord
  pub next : ℕ
  pub sections : Sections m header_size told next
  pub heard : hs ≡ map (hearing_of moment) told

-- `new` is `old` and the hearings of an item; `next` is the offset after the item
pub record Adds (moment : Moment) (Item : ℕ → List HeardRecord → ℕ → Type 0) (start : ℕ) (old new : List Hearing) (next : ℕ) : Type 0 where
  pub told : List HeardRecord
  pub item : Item start told next
  pub added : new ≡ old ++ map (hearing_of moment) told
