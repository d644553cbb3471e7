-- The whole seconds in which a record was heard.
use Rattle.std.specs.Prelude.{◌≡◌, ◌==◌, if◌then◌else◌, ℕ, List, [], ◌∷◌, map, unwrap_or, Contains}
use Rattle.std.specs.{List.Sorted.{IsStrictlySortedBy}, Ordering.{nat_cmp}}
use Rattle.join_map.specs.Entries.{value_at}
use Rattle.mdns_message.specs.{declared.{hearing.Hearing.{Hearing}, key.Key.{Key}}, Resource.{key_cmp}}
use Rattle.mdns_lives.specs.declared.{life.RecordHearing.{RecordHearing}, seconds_heard.SecondHeard.{SecondHeard}}
use Rattle.mdns_lives.specs.{Chronicle.{Accounts, history_in}, History.{IsHeardAs}, Seconds.{AreEnds, ends, listed_ends, second_of}}

-- the whole second, counted since 1970
abbrev pub number_of : SecondHeard → ℕ
number_of second = second_of second.first

-- These are the seconds of the hearings that are there, in order, each once, with the first and the last hearing in it.
pub record AreSecondsOf (IsThere : RecordHearing → Type 0) (seconds : List SecondHeard) : Type 0 where
  pub ascending : IsStrictlySortedBy nat_cmp (map number_of seconds)
  pub each : (s : SecondHeard) → Contains seconds s → AreEnds IsThere (number_of s) (ends s.first s.last)
  pub all : (x : RecordHearing) → IsThere x → (s : SecondHeard) × Contains seconds s × (number_of s ≡ second_of x)

-- These are the seconds in which the record was heard, in order, each once, with its first and its last hearing there.
abbrev pub AreSecondsHeard : List Hearing → Key → List SecondHeard → Type 0
AreSecondsHeard heard key seconds = AreSecondsOf (IsHeardAs heard key) seconds

-- ---- by a walk over hearings in order

-- the second of which this is the one hearing
abbrev pub heard_once : RecordHearing → SecondHeard
heard_once h = record { first = h; last = h }

-- the second with a later hearing
abbrev pub heard_again : SecondHeard → RecordHearing → SecondHeard
heard_again second h = record { first = second.first; last = h }

-- the seconds, the first of which is `current` as of the hearings before these
unfoldable pub seconds_from : SecondHeard → List RecordHearing → List SecondHeard
seconds_from current [] = current ∷ []
seconds_from current (h ∷ hs) =
    if second_of h == number_of current then seconds_from (heard_again current h) hs
    else current ∷ seconds_from (heard_once h) hs

-- the seconds that hearings in order give
abbrev pub seconds_walked : List RecordHearing → List SecondHeard
seconds_walked [] = []
seconds_walked (h ∷ hs) = seconds_from (heard_once h) hs

-- the seconds that are held for a record, by the hearings that these hold
abbrev pub seconds_held : Accounts → Key → List SecondHeard
seconds_held c key = seconds_walked (listed_ends (unwrap_or (history_in (value_at key_cmp key c.records)) []))
