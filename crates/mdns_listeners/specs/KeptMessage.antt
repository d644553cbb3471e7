-- Messages that are kept once, the times at which they were told, each with the place of its message, and the names of senders
-- that are held with them.
use Rattle.std.specs.Prelude.{◌≡◌, ℕ, ◌-◌, ◌<◌, ◌⊎◌, ◌≢◌, ◌==◌, Bool, List, [], ◌∷◌, ◌++◌, drop, length, map}
use Rattle.std.specs.Prelude.{if◌then◌else◌, slice_index, slice_index_or}
use Rattle.std.specs.{List.{All, Contains}, List.Sorted.{IsSortedBy}, Cmp.Lexicographic.{slice_cmp}, Ordering.{is_lt, nat_cmp}}
use Rattle.mdns_capture.specs.declared.{moment.Moment.{Moment}, source_address.SourceAddress.{SourceAddress}}
use Rattle.mdns_message.specs.{declared.hearing.Hearing.{Hearing}, Message.{MessageReads}}
use Rattle.mdns_cache.specs.Repeats.{ReadsAs}
use Rattle.mdns_listeners.specs.declared.{heard_message.HeardAt.{HeardAt}, kept_message.MessageTime.{MessageTime}}
use Rattle.mdns_listeners.specs.declared.sender_names.SenderAddressName.{SenderAddressName}
use Rattle.mdns_listeners.specs.HeardMessage.{Told, HasWholeAddress, HeardRow, message_bytes, messages_of, times_of}
use Rattle.mdns_listeners.specs.SenderNames.{HoldsNames, SufficeFor, told_in}

-- a message, its place among those kept, and how many hearings it has
pub record KeptMessage : Type 0 where
  pub message : List ℕ
  pub place : ℕ
  pub hearings : ℕ

-- what was told, and the names of senders that are held
pub record HeardSoFar : Type 0 where
  pub told : List Told
  pub names : List SenderAddressName

-- a message was heard, with these hearings
pub record HearsMessage (source : SourceAddress) (payload : List ℕ) (at : HeardAt) (hearings : List Hearing) (old new : HeardSoFar)
    : Type 0 where
  pub told : new.told ≡ old.told ++ record { message = message_bytes source payload; at = at } ∷ []
  pub names : (earlier : List Hearing) → HoldsNames old.names earlier → HoldsNames new.names (earlier ++ hearings)

-- one message more was told, whose names are held already
abbrev pub told_again : SourceAddress → List ℕ → HeardAt → HeardSoFar → HeardSoFar
told_again source payload at old = record {
  told = old.told ++ record { message = message_bytes source payload; at = at } ∷ [];
  names = old.names;
}

-- the payload of a message: what follows the version of IP and the address
abbrev pub payload_in : List ℕ → List ℕ
payload_in [] = []
payload_in (version ∷ rest) = drop (if version == 4 then 4 else 16) rest

-- the messages that are kept
abbrev pub kept_messages : List KeptMessage → List (List ℕ)
kept_messages kept = map (λ one. one.message) kept

-- what was told: each time with the message at its place
abbrev pub told_by : List (List ℕ) → List MessageTime → List Told
told_by messages times = map (λ noted. record { message = slice_index_or messages noted.place []; at = noted.at }) times

-- At any moment a message's payload reads to so many hearings, at least one, and the names that are held suffice for theirs.
pub record IsRead (names : List SenderAddressName) (one : KeptMessage) : Type 0 where
  pub some : 0 < one.hearings
  pub reads : (moment : Moment) → ReadsAs moment (payload_in one.message) one.hearings
  pub named : (moment : Moment) (hearings : List Hearing) → MessageReads moment (payload_in one.message) hearings
      → SufficeFor names (told_in hearings)

-- Each message knows its place, has its sender's address and was read, and each time has the place of a message.
pub record AreKept (kept : List KeptMessage) (times : List MessageTime) (names : List SenderAddressName) : Type 0 where
  pub placed : (k : ℕ) (d : KeptMessage) → k < length kept → (slice_index_or kept k d).place ≡ k
  pub addressed : All (λ one. HasWholeAddress one.message) kept
  pub read : All (IsRead names) kept
  pub within : All (λ noted. noted.place < length kept) times

-- a message with so many hearings at the place after the last one
abbrev pub next_kept : List KeptMessage → List ℕ → ℕ → KeptMessage
next_kept kept message hearings = record { message = message; place = length kept; hearings = hearings }

-- whether a message is below another
abbrev pub is_below : KeptMessage → KeptMessage → Bool
is_below one other = is_lt (slice_cmp nat_cmp one.message other.message)

-- no message is below the one before it
abbrev pub AreSorted : List KeptMessage → Type 0
AreSorted kept = IsSortedBy is_below kept

-- The kept messages are these, each with its place in the list, in any order.
pub record ArePlaced (messages : List (List ℕ)) (kept : List KeptMessage) : Type 0 where
  pub long : length kept ≡ length messages
  pub within : All (λ one. one.place < length messages) kept
  pub same : All (λ one. slice_index_or messages one.place [] ≡ one.message) kept
  pub each : (place : ℕ) → place < length messages → (one : KeptMessage) × Contains kept one × (one.place ≡ place)

-- The row with the number that is noted for a message's place is the message's.
pub record IsNumbered (rows : List HeardRow) (numbers : List ℕ) (one : KeptMessage) : Type 0 where
  pub within : slice_index numbers one.place < length rows
  pub own : slice_index_or (messages_of rows) (slice_index numbers one.place) [] ≡ one.message

-- the row with the times at which its message was told
abbrev pub filled : List Told → HeardRow → HeardRow
filled told row = record { message = row.message; times = times_of row.message told }

-- what was told, by the numbers of rows
abbrev pub told_of_rows : List HeardRow → List ℕ → List MessageTime → List Told
told_of_rows rows numbers times =
    map (λ noted. record { message = slice_index_or (messages_of rows) (slice_index numbers noted.place) []; at = noted.at }) times

-- the message of the last row
abbrev pub last_message : List HeardRow → List ℕ
last_message rows = slice_index_or (messages_of rows) (length rows - 1) []

-- There is a row more, of a message that nobody heard yet, unless the last row is the message's.
abbrev pub AddsRow : List HeardRow → List ℕ → List HeardRow → Type 0
AddsRow rows message more = ((more ≡ rows) × (0 < length rows) × (last_message rows ≡ message))
    ⊎ ((0 < length rows → last_message rows ≢ message) × (more ≡ rows ++ record { message = message; times = [] } ∷ []))
