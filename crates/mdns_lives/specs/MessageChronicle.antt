-- A chronicle beside messages that come again byte for byte. Such a message is remembered by its bytes, with the moments at
-- which it came whose hearings aren't in the chronicle yet.
use Rattle.std.specs.Prelude.{◌⊎◌, ◌↔◌, ℕ, List, [], ◌∷◌, ◌++◌, Contains}
use Rattle.mdns_capture.specs.declared.moment.Moment.{Moment}
use Rattle.mdns_message.specs.{declared.hearing.Hearing.{Hearing}, Message.{MessageReads}}
use Rattle.mdns_cache.specs.Repeats.{Remembered}
use Rattle.mdns_lives.specs.Chronicle.{Accounts, Chronicles}

-- a message that is remembered: its bytes, and those moments at which it came whose hearings wait
pub record Awaited : Type 0 where
  pub bytes : List ℕ
  pub moments : List Moment

-- the same by its parts
abbrev pub awaited : List ℕ → List Moment → Awaited
awaited bytes moments = record { bytes = bytes; moments = moments }

-- the messages that are remembered, each with its moments
unfoldable pub messages_with : List Remembered → List (List Moment) → List Awaited
messages_with [] moments = []
messages_with (message ∷ messages) [] = []
messages_with (message ∷ messages) (moments ∷ others) = awaited message.bytes moments ∷ messages_with messages others

-- the hearing is one of the message, in a packet captured at one of the moments
pub record IsHearingAt (message : List ℕ) (moments : List Moment) (h : Hearing) : Type 0 where
  pub hearings : List Hearing
  pub reads : MessageReads h.moment message hearings
  pub among : Contains hearings h
  pub came : Contains moments h.moment

-- the hearing is one of a message that is remembered, at one of its moments that wait
pub record IsAwaited (memory : List Awaited) (h : Hearing) : Type 0 where
  pub message : Awaited
  pub among : Contains memory message
  pub hears : IsHearingAt message.bytes message.moments h

-- a chronicle's contents beside messages that are remembered
pub record Recorded : Type 0 where
  pub contents : Accounts
  pub memory : List Awaited

-- the same by its parts
abbrev pub recorded : Accounts → List Awaited → Recorded
recorded contents memory = record { contents = contents; memory = memory }

-- The contents and the messages that are remembered record the hearings: the contents stand for some of them, the others
-- are those of the messages at the moments that wait, and there are no others.
pub record RecordsAll (c : Accounts) (memory : List Awaited) (heard : List Hearing) : Type 0 where
  pub told : List Hearing
  pub chronicles : Chronicles c told
  pub exactly : (h : Hearing) → Contains heard h ↔ (Contains told h ⊎ IsAwaited memory h)

-- of the message exactly the hearings at these moments were added
pub record ChroniclesAt (new : Accounts) (message : List ℕ) (moments : List Moment) (before : List Hearing) : Type 0 where
  pub later : List Hearing
  pub chronicles : Chronicles new (before ++ later)
  pub exactly : (h : Hearing) → Contains later h ↔ IsHearingAt message moments h
