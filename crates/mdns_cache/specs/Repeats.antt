-- Messages that come again byte for byte. Such a message is remembered by its bytes, with the moments at which it came that
-- the rule for flush moments keeps, and its hearings are heard at these moments at the end.
use Rattle.std.specs.Prelude.{◌≡◌, ◌⊎◌, ℕ, ◌+◌, ◌<◌, ◌≤◌, true, List, [], ◌∷◌, ◌++◌, length, map, flat_map, sum_by, Contains}
use Rattle.std.specs.Prelude.{if◌then◌else◌}
use Rattle.mdns_capture.specs.{Limits.{second}, declared.moment.Moment.{Moment}}
use Rattle.mdns_message.specs.{declared.hearing.Hearing.{Hearing}, RecordAt.{HeardRecord}}
use Rattle.mdns_message.specs.{Message.{MessageReads, hearing_of, most_hearings}, Resource.{set_key_of}}
use Rattle.join_map.specs.Entries.{one_entry}
use Rattle.mdns_join.specs.Kept.{has, kept_union}
use Rattle.mdns_cache.specs.Contents.{Contents, StandsFor, contents_of}

-- what was heard, without the moment
abbrev pub record_heard : Hearing → HeardRecord
record_heard h = record { resource = h.heard; ttl = h.ttl; flush = h.flush }

-- the hearing as of each of these moments
abbrev pub at_each : List Moment → Hearing → List Hearing
at_each ts h = map (λ (t : Moment). hearing_of t (record_heard h)) ts

-- the hearings as of each of these moments
abbrev pub all_at_each : List Moment → List Hearing → List Hearing
all_at_each ts hs = flat_map (at_each ts) hs

-- the contents of a hearing as of each of these moments, of which its own is the newest
abbrev pub contents_at_each : Hearing → List ℕ → Contents
contents_at_each h moments = record (contents_of h) { flushes = if h.flush then one_entry (set_key_of h.heard) moments else [] }

-- the record was heard at the moment q
abbrev pub IsHeardAt : List Hearing → HeardRecord → ℕ → Type 0
IsHeardAt heard r q = (h : Hearing) × Contains heard h × (record_heard h ≡ r) × (h.moment.nanos ≡ q)

-- the message reads, in a packet of any moment, with a hearing of the record
abbrev pub IsReadOf : List ℕ → HeardRecord → Type 0
IsReadOf message r =
    (t : Moment) → (hearings : List Hearing) × MessageReads t message hearings × Contains hearings (hearing_of t r)

-- the message reads, in a packet of that moment, and has so many hearings
pub record ReadsAs (moment : Moment) (message : List ℕ) (count : ℕ) : Type 0 where
  pub hearings : List Hearing
  pub reads : MessageReads moment message hearings
  pub counted : length hearings ≡ count
  pub few : count ≤ most_hearings

-- a message that is remembered: its bytes, and those kept of the moments at which it came
pub record Remembered : Type 0 where
  pub bytes : List ℕ
  pub moments : List ℕ

-- a message that is remembered, by its parts
abbrev pub remembered : List ℕ → List ℕ → Remembered
remembered bytes moments = record { bytes = bytes; moments = moments }

-- the bytes that a message takes which is remembered: its own, and 64 beside them
abbrev pub bytes_taken : Remembered → ℕ
bytes_taken message = 64 + length message.bytes

-- the messages take so many bytes together, at most 8 MiB
pub record HasSize (memory : List Remembered) (size : ℕ) : Type 0 where
  pub total : sum_by bytes_taken memory ≡ size
  pub most : size ≤ 8388608

-- the message has the record, and came at the moment q, which is kept
pub record Recalls (message : Remembered) (r : HeardRecord) (q : ℕ) : Type 0 where
  pub read : IsReadOf message.bytes r
  pub kept : has message.moments q ≡ true

-- one of the messages that are remembered does so
abbrev pub IsRecalled : List Remembered → HeardRecord → ℕ → Type 0
IsRecalled memory r q = (message : Remembered) × Contains memory message × Recalls message r q

-- the record was heard at the moment q at once, or is remembered
abbrev pub IsHeld : List Hearing → List Remembered → HeardRecord → ℕ → Type 0
IsHeld at_once memory r q = IsHeardAt at_once r q ⊎ IsRecalled memory r q

-- a moment later than q is itself a second or more older than another one (RFC 6762, section 10.2)
pub record IsOvertaken (At : ℕ → Type 0) (q : ℕ) : Type 0 where
  pub next : ℕ
  pub newest : ℕ
  pub after : q < next
  pub old : next + second ≤ newest
  pub at_next : At next
  pub at_newest : At newest

-- q is one of the moments, or isn't needed beside them
abbrev pub IsCovered : (ℕ → Type 0) → ℕ → Type 0
IsCovered At q = At q ⊎ IsOvertaken At q

-- the moments held are among those heard, which aren't needed beside them
pub record Covers (Held Heard : ℕ → Type 0) : Type 0 where
  pub into : (q : ℕ) → Held q → Heard q
  pub all : (q : ℕ) → Heard q → IsCovered Held q

-- the contents and the messages that are remembered stand for the hearings: the contents for some of them, and both together
-- hold what is needed of all
pub record StandsWith (c : Contents) (memory : List Remembered) (heard : List Hearing) : Type 0 where
  pub at_once : List Hearing
  pub stands : StandsFor c at_once
  pub covers : (r : HeardRecord) → Covers (IsHeld at_once memory r) (IsHeardAt heard r)

-- a message that is remembered came once more: its moments are joined with that one
pub record ComesAgain (old new : List Remembered) (message : List ℕ) (moment : Moment) : Type 0 where
  pub front : List Remembered
  pub moments : List ℕ
  pub back : List Remembered
  pub was : old ≡ front ++ remembered message moments ∷ back
  pub now : new ≡ front ++ remembered message (kept_union moments (moment.nanos ∷ [])) ∷ back

-- contents beside messages that are remembered
pub record Listened : Type 0 where
  pub contents : Contents
  pub memory : List Remembered

-- the same by its parts
abbrev pub listened : Contents → List Remembered → Listened
listened c memory = record { contents = c; memory = memory }
