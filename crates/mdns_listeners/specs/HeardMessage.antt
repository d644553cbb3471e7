-- Which messages listeners heard, and when. A message is a packet that told at least one hearing; two messages are the same if
-- their sender's addresses and their payloads are the same bytes.
use Rattle.std.specs.Prelude.{◌≡◌, ℕ, ◌≤◌, Bool, if◌then◌else◌, ◌⊎◌, List, [], ◌∷◌, ◌++◌, length, map}
use Rattle.std.specs.{Prelude.{slice_index, Option, Some, None}, List.{filter}, Option.{is_some}, List.Sorted.{IsStrictlySortedBy}}
use Rattle.std.specs.{Str.{bytes_eq}, Cmp.Lexicographic.{slice_cmp}, Ordering.{nat_cmp}}
use Rattle.mdns_capture.specs.declared.source_address.{SourceAddress.{SourceAddress}, SourceAddress.TheVariants.{V4, V6}}
use Rattle.mdns_listeners.specs.declared.heard_message.HeardAt.{HeardAt}

-- The bytes of a message: 4 or 6 for the version of IP, the address, and the payload. In the order of these bytes IPv4 senders
-- stand before IPv6 senders, and the messages of one sender stand together.
abbrev pub message_bytes : SourceAddress → List ℕ → List ℕ
message_bytes (V4 octets) payload = 4 ∷ octets ++ payload
message_bytes (V6 octets) payload = 6 ∷ octets ++ payload

-- A message begins with 4 and the four octets of an address, or with 6 and sixteen.
abbrev pub HasWholeAddress : List ℕ → Type 0
HasWholeAddress message = ((slice_index message 0 ≡ 4) × (5 ≤ length message)) ⊎ ((slice_index message 0 ≡ 6) × (17 ≤ length message))

-- a message that a packet told, and who heard it when
pub record Told : Type 0 where
  pub message : List ℕ
  pub at : HeardAt

-- one of the different messages, and who heard it when, as often as it was heard
pub record HeardRow : Type 0 where
  pub message : List ℕ
  pub times : List HeardAt

-- whether two messages are the same
abbrev pub is_same : List ℕ → List ℕ → Bool
is_same message other = bytes_eq message other

-- the times at which a message was told, in the order in which they were
abbrev pub times_of : List ℕ → List Told → List HeardAt
times_of message all = map (λ told. told.at) (filter (λ told. is_same message told.message) all)

-- the times of the row of a message, if there is one
abbrev pub row_at : List ℕ → List HeardRow → Option (List HeardAt)
row_at message [] = None
row_at message (row ∷ rows) = if is_same message row.message then Some row.times else row_at message rows

-- times, if there are any
abbrev pub some_times : List HeardAt → Option (List HeardAt)
some_times [] = None
some_times (time ∷ times) = Some (time ∷ times)

-- whether a row has a time
abbrev pub has_times : HeardRow → Bool
has_times row = is_some (some_times row.times)

-- the messages of rows
abbrev pub messages_of : List HeardRow → List (List ℕ)
messages_of rows = map (λ row. row.message) rows

-- The rows are those of the different messages that were told: their messages ascend, and each message that was told has a row
-- with all of its times, in order.
pub record AreHeardIn (all : List Told) (rows : List HeardRow) : Type 0 where
  pub ascending : IsStrictlySortedBy (slice_cmp nat_cmp) (messages_of rows)
  pub right : (message : List ℕ) → row_at message rows ≡ some_times (times_of message all)
