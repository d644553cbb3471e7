-- The lives of a record: the intervals of moments at which it was live, as things stood then (RFC 6762, section 10).
-- Moments are counted in nanoseconds.
use Rattle.std.specs.Prelude.{◌≡◌, ℕ, ◌+◌, ◌<◌, ◌≤◌, ◌↔◌, ◌⊎◌, ◌==◌, ◌&&◌, nat_le, nat_lt, List, [], ◌∷◌, Contains, Option, Some}
use Rattle.std.specs.{Prelude.{MatchOption}, List.{filter}, Ordering.{is_eq}}
use Rattle.mdns_capture.specs.declared.moment.Moment.{Moment}
use Rattle.mdns_message.specs.{declared.{hearing.Hearing.{Hearing}, key.Key.{Key}}, Resource.{key_of, key_cmp}}
use Rattle.mdns_join.specs.declared.latest.Latest.{Latest}
use Rattle.mdns_capture.specs.Limits.{second}
use Rattle.mdns_cache.specs.Live.{IsLast, IsLive, IsNewest, Strikes, life_of}
use Rattle.mdns_lives.specs.declared.life.{Life.{Life}, EndReason.{EndReason}, EndReason.TheVariants.{Expired, Goodbye, Flushed}}

-- ---- when a record was live

-- the hearings that are no later than the moment
abbrev pub heard_until : ℕ → List Hearing → List Hearing
heard_until now heard = filter (λ hearing. nat_le hearing.moment.nanos now) heard

-- the hearings that are earlier than the moment
abbrev pub heard_before : ℕ → List Hearing → List Hearing
heard_before now heard = filter (λ hearing. nat_lt hearing.moment.nanos now) heard

-- the record was live at the moment, as things stood then: as of it, by the hearings that are no later
abbrev pub IsLiveThen : List Hearing → Key → ℕ → Type 0
IsLiveThen heard key now = (l : Latest) × IsLive (heard_until now heard) now key l

-- ---- lists of lives

-- the moment is in the life
abbrev pub IsDuring : Life → ℕ → Type 0
IsDuring life now = (life.from.nanos ≤ now) × (now < life.until)

-- the moment is in one of the lives
abbrev pub IsInOne : List Life → ℕ → Type 0
IsInOne [] now = ⊥
IsInOne (life ∷ lives) now = IsDuring life now ⊎ IsInOne lives now

-- no life is empty, each begins after the one before it has ended, and the first after the moment `low`
abbrev pub AreApartAfter : ℕ → List Life → Type 0
AreApartAfter low [] = Unit {0}
AreApartAfter low (life ∷ lives) = (low < life.from.nanos) × (life.from.nanos < life.until) × AreApartAfter life.until lives

-- no life is empty, and each begins after the one before it has ended
abbrev pub AreApart : List Life → Type 0
AreApart [] = Unit {0}
AreApart (life ∷ lives) = (life.from.nanos < life.until) × AreApartAfter life.until lives

-- ---- why a life ends

-- a flush that strikes a record last heard at t is one second old at `end`
abbrev pub IsStruckAt : List Hearing → Key → ℕ → ℕ → Type 0
IsStruckAt heard key t end = (flush : Hearing) × Strikes heard key t flush × (flush.moment.nanos + second ≡ end)

-- A record with this last hearing ends then for that reason: the hearing's TTL runs out, the hearing was a goodbye
-- (section 10.1), or, where that is earlier, a flush of its set is one second old (section 10.2).
abbrev pub IsEndFor : List Hearing → Key → Latest → ℕ → EndReason → Type 0
IsEndFor heard key last end Expired = (0 < last.ttl) × (end ≡ last.moment.nanos + life_of last.ttl)
IsEndFor heard key last end Goodbye = (last.ttl ≡ 0) × (end ≡ last.moment.nanos + life_of last.ttl)
IsEndFor heard key last end Flushed = (end < last.moment.nanos + life_of last.ttl) × IsStruckAt heard key last.moment.nanos end

-- the life ends for its reason, by the record's last hearing until then
pub record EndsThen (heard : List Hearing) (key : Key) (life : Life) : Type 0 where
  pub last : Latest
  pub is_last : IsLast (heard_until life.until heard) key last
  pub moment : last.moment ≡ life.last.moment
  pub ttl : last.ttl ≡ life.last.ttl
  pub ends : IsEndFor heard key last life.until life.reason

-- ---- goodbyes that were taken back

-- the record's goodbyes: its hearings with TTL 0 (section 10.1)
abbrev pub goodbyes_of : List Hearing → Key → List Hearing
goodbyes_of heard key = filter (λ hearing. is_eq (key_cmp key (key_of hearing.heard)) && hearing.ttl == 0) heard

-- the moment of the record's latest goodbye, if it said one
abbrev pub IsGoodbyeOf : List Hearing → Key → Option Moment → Type 0
IsGoodbyeOf heard key goodbye = MatchOption goodbye (goodbyes_of heard key ≡ []) (IsNewest (goodbyes_of heard key))

-- the life takes a goodbye back: the goodbye is in it, and its last hearing is no goodbye and comes no earlier
abbrev pub TakesBack : Life → Moment → Type 0
TakesBack life goodbye = (life.from.nanos ≤ goodbye.nanos) × (goodbye.nanos ≤ life.last.moment.nanos) × (0 < life.last.ttl)

-- the life tells the record's latest goodbye exactly if it takes it back, and no other
abbrev pub IsTakenBack : List Hearing → Key → Life → Type 0
IsTakenBack heard key life =
    (goodbye : Moment) → (life.taken_back ≡ Some goodbye) ↔ (IsNewest (goodbyes_of heard key) goodbye × TakesBack life goodbye)

-- ---- the lives

-- These are the lives of the record: it was live at exactly the moments in them, they are in order and as few as can
-- be, each ends for its reason, and that which takes the latest goodbye back tells it.
pub record AreLives (heard : List Hearing) (key : Key) (lives : List Life) : Type 0 where
  pub apart : AreApart lives
  pub exactly : (now : ℕ) → IsLiveThen heard key now ↔ IsInOne lives now
  pub ends : (life : Life) → Contains lives life → EndsThen heard key life
  pub goodbyes : (life : Life) → Contains lives life → IsTakenBack heard key life
