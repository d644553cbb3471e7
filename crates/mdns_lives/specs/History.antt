-- The lives of a record by its own hearings and the flush moments of its set alone.
use Rattle.std.specs.Prelude.{◌≡◌, ℕ, ◌+◌, ◌<◌, ◌≤◌, ◌↔◌, ◌⊎◌, true, List, [], ◌∷◌, Contains, None}
use Rattle.mdns_capture.specs.Limits.{second}
use Rattle.mdns_message.specs.{declared.hearing.Hearing.{Hearing}, declared.key.Key.{Key}, RecordSet.{RecordSet}, Resource.{IsOf}}
use Rattle.mdns_join.specs.Kept.{has, IsStruckBy}
use Rattle.mdns_cache.specs.Live.{life_of, IsFlushedAt}
use Rattle.mdns_lives.specs.declared.life.{RecordHearing.{RecordHearing}, Life.{Life}, EndReason.{EndReason}}
use Rattle.mdns_lives.specs.{declared.life.EndReason.TheVariants.{Expired, Goodbye, Flushed}, Lives.{IsInOne, AreApart}}

-- ---- what is kept of the hearings

-- the moment and the TTL of a hearing
abbrev pub heard_of : Hearing → RecordHearing
heard_of hearing = record { moment = hearing.moment; ttl = hearing.ttl }

-- some hearing of the record has this moment and this TTL
pub record IsHeardAs (heard : List Hearing) (key : Key) (h : RecordHearing) : Type 0 where
  pub hearing : Hearing
  pub among : Contains heard hearing
  pub of_record : IsOf key hearing
  pub gives : heard_of hearing ≡ h

-- these are the moments and TTLs of the record's hearings
abbrev pub IsHistory : List Hearing → Key → List RecordHearing → Type 0
IsHistory heard key history = (h : RecordHearing) → Contains history h ↔ IsHeardAs heard key h

-- these are the moments of the flushes of the set
abbrev pub AreFlushes : List Hearing → RecordSet → List ℕ → Type 0
AreFlushes heard set flushes = (m : ℕ) → (has flushes m ≡ true) ↔ IsFlushedAt heard set m

-- ---- the order of a record's hearings

-- a hearing of a record counts no more than another: it is earlier, or at the same moment with no greater TTL
abbrev pub IsUpTo : RecordHearing → RecordHearing → Type 0
IsUpTo g h = (g.moment.nanos < h.moment.nanos) ⊎ ((g.moment.nanos ≡ h.moment.nanos) × (g.ttl ≤ h.ttl))

-- each hearing counts no more than those after it
abbrev pub AreInOrder : List RecordHearing → Type 0
AreInOrder [] = Unit {0}
AreInOrder (g ∷ []) = Unit {0}
AreInOrder (g ∷ h ∷ hs) = IsUpTo g h × AreInOrder (h ∷ hs)

-- ---- when the record is live

-- of the hearings that are no later than the moment, this one counts most
pub record IsLastAt (history : List RecordHearing) (now : ℕ) (last : RecordHearing) : Type 0 where
  pub among : Contains history last
  pub by_then : last.moment.nanos ≤ now
  pub greatest : (other : RecordHearing) → Contains history other → other.moment.nanos ≤ now → IsUpTo other last

-- the record is live at the moment, by its hearings and the flushes of its set that are no later: the life of its last
-- hearing hasn't run out, and no flush has struck it
pub record IsLiveAt (history : List RecordHearing) (flushes : List ℕ) (now : ℕ) : Type 0 where
  pub last : RecordHearing
  pub is_last : IsLastAt history now last
  pub running : now < last.moment.nanos + life_of last.ttl
  pub unstruck : ¬ IsStruckBy flushes last.moment.nanos now

-- a flush that came more than one second after the moment t is one second old at `end`
pub record IsFlushEnd (flushes : List ℕ) (t end : ℕ) : Type 0 where
  pub flush : ℕ
  pub among : has flushes flush ≡ true
  pub later : t + second < flush
  pub at_it : flush + second ≡ end

-- a record with this last hearing ends then for that reason
abbrev pub IsEndBy : List ℕ → RecordHearing → ℕ → EndReason → Type 0
IsEndBy flushes last end Expired = (0 < last.ttl) × (end ≡ last.moment.nanos + life_of last.ttl)
IsEndBy flushes last end Goodbye = (last.ttl ≡ 0) × (end ≡ last.moment.nanos + life_of last.ttl)
IsEndBy flushes last end Flushed = (end < last.moment.nanos + life_of last.ttl) × IsFlushEnd flushes last.moment.nanos end

-- the life ends for its reason, by the record's last hearing until then
pub record EndsBy (history : List RecordHearing) (flushes : List ℕ) (life : Life) : Type 0 where
  pub is_last : IsLastAt history life.until life.last
  pub ends : IsEndBy flushes life.last life.until life.reason

-- these are the lives of a record with this history, which tell no goodbye
pub record AreLivesBy (history : List RecordHearing) (flushes : List ℕ) (lives : List Life) : Type 0 where
  pub apart : AreApart lives
  pub exactly : (now : ℕ) → IsLiveAt history flushes now ↔ IsInOne lives now
  pub ends : (life : Life) → Contains lives life → EndsBy history flushes life
  pub untold : (life : Life) → Contains lives life → life.taken_back ≡ None
