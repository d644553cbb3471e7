-- The last hearing of a record, and until when the record is live (RFC 6762, sections 10.1 and 10.2). A list of hearings is
-- read as a set: only which hearings it contains counts. Moments are counted in nanoseconds.
use Rattle.std.specs.Prelude.{◌≡◌, ◌≢◌, ◌⊎◌, ℕ, ◌+◌, ◌*◌, ◌<◌, ◌≤◌, ◌==◌, ◌↔◌, Bool, ◌&&◌, map, if◌then◌else◌, List, [], ◌∷◌}
use Rattle.std.specs.Prelude.{length, Option, IfSome, Contains}
use Rattle.std.specs.{Ordering.{is_eq}, List.Sorted.{IsStrictlySortedBy}, declared.cmp.Ordering.TheVariants.{Greater}}
use Rattle.mdns_capture.specs.{declared.moment.Moment.{Moment}, Limits.{second}}
use Rattle.mdns_message.specs.{declared.hearing.Hearing.{Hearing}, declared.key.Key.{Key}, RecordSet.{RecordSet}}
use Rattle.mdns_message.specs.Resource.{IsOf, IsFlushOf, set_key_of, set_key_cmp, key_of, key_cmp}
use Rattle.mdns_join.specs.{declared.latest.Latest.{Latest}, Latest.{latest_cmp, latest_of}}

-- the record was never heard
abbrev pub IsUnheard : List Hearing → Key → Type 0
IsUnheard heard key = (hearing : Hearing) → Contains heard hearing → ¬ IsOf key hearing

-- the last hearing of a record: one of its hearings, which none of them exceeds by moment, then TTL, then spelling
pub record IsLast (heard : List Hearing) (key : Key) (last : Latest) : Type 0 where
  pub hearing : Hearing
  pub among : Contains heard hearing
  pub of_record : IsOf key hearing
  pub gives : latest_of hearing ≡ last
  pub greatest : (other : Hearing) → Contains heard other → IsOf key other → latest_cmp (latest_of other) last ≢ Greater

-- the newest moment: that of some hearing, and no hearing is later
pub record IsNewest (heard : List Hearing) (moment : Moment) : Type 0 where
  pub hearing : Hearing
  pub among : Contains heard hearing
  pub at_it : hearing.moment ≡ moment
  pub latest : (other : Hearing) → Contains heard other → other.moment.nanos ≤ moment.nanos

-- no hearing is later than `now`, given the newest hearing's moment
abbrev pub NoneLater : Option Moment → Moment → Type 0
NoneLater newest now = IfSome newest (λ moment. moment.nanos ≤ now.nanos)

-- the same hearings, in whatever order and however often
pub record SameHearings (heard others : List Hearing) : Type 0 where
  pub into : (hearing : Hearing) → Contains heard hearing → Contains others hearing
  pub back : (hearing : Hearing) → Contains others hearing → Contains heard hearing

-- some hearing is of the record
pub record IsHeard (heard : List Hearing) (key : Key) : Type 0 where
  pub hearing : Hearing
  pub among : Contains heard hearing
  pub of_record : IsOf key hearing

-- so many different records were heard
pub record CountsRecords (heard : List Hearing) (count : ℕ) : Type 0 where
  pub keys : List Key
  pub distinct : IsStrictlySortedBy key_cmp keys
  pub exactly : (key : Key) → Contains keys key ↔ IsHeard heard key
  pub counted : count ≡ length keys

-- how long a TTL keeps a record alive: so many seconds, and one second after a goodbye, which is a TTL of 0 (section 10.1)
abbrev pub life_of : ℕ → ℕ
life_of ttl = if ttl == 0 then second else ttl * second

-- a flush strikes a record last heard at t: it is of the record's set, and came more than one second later (section 10.2)
pub record Strikes (heard : List Hearing) (key : Key) (t : ℕ) (flush : Hearing) : Type 0 where
  pub among : Contains heard flush
  pub of_set : IsFlushOf key.set flush
  pub later : t + second < flush.moment.nanos

-- such a flush is one second old or more, so that it has struck the record
pub record IsStruck (heard : List Hearing) (now : ℕ) (key : Key) (t : ℕ) : Type 0 where
  pub flush : Hearing
  pub strikes : Strikes heard key t flush
  pub old : flush.moment.nanos + second ≤ now

-- the record is live, l being its last: its life hasn't run out, and no flush has struck it
pub record IsLive (heard : List Hearing) (now : ℕ) (key : Key) (l : Latest) : Type 0 where
  pub last : IsLast heard key l
  pub running : now < l.moment.nanos + life_of l.ttl
  pub unstruck : ¬ IsStruck heard now key l.moment.nanos

-- the end of a record that was heard: the least of the moment at which its life runs out and of one second after each
-- flush that strikes it. The record is live until then.
pub record IsEnd (heard : List Hearing) (key : Key) (end : ℕ) : Type 0 where
  pub last : Latest
  pub is_last : IsLast heard key last
  pub by_life : end ≤ last.moment.nanos + life_of last.ttl
  pub by_flush : (flush : Hearing) → Strikes heard key last.moment.nanos flush → end ≤ flush.moment.nanos + second
  pub reached : (end ≡ last.moment.nanos + life_of last.ttl)
      ⊎ ((flush : Hearing) × Strikes heard key last.moment.nanos flush × (flush.moment.nanos + second ≡ end))

-- the record that a last hearing is of
abbrev pub key_of_last : Latest → Key
key_of_last l = key_of l.resource

-- the rows are the last hearings of the live records, each record once, in key order
pub record AreLiveRows (heard : List Hearing) (now : ℕ) (rows : List Latest) : Type 0 where
  pub ascending : IsStrictlySortedBy key_cmp (map key_of_last rows)
  pub exactly : (l : Latest) → Contains rows l ↔ IsLive heard now (key_of_last l) l

-- the rows are the last hearings of the live records with their ends, each record once, in key order
pub record AreLiveRecords (heard : List Hearing) (now : ℕ) (rows : List (Latest × ℕ)) : Type 0 where
  pub ascending : IsStrictlySortedBy key_cmp (map (λ (row : Latest × ℕ). key_of_last row.0) rows)
  pub exactly : (l : Latest) (end : ℕ) → Contains rows (l, end) ↔ (IsLive heard now (key_of_last l) l × IsEnd heard (key_of_last l) end)

-- some hearing is a flush of the set at that moment
pub record IsFlushedAt (heard : List Hearing) (set : RecordSet) (moment : ℕ) : Type 0 where
  pub flush : Hearing
  pub among : Contains heard flush
  pub of_set : IsFlushOf set flush
  pub at_it : flush.moment.nanos ≡ moment

-- whether a hearing is a flush of the set
abbrev pub is_flush_of : RecordSet → Hearing → Bool
is_flush_of set h = h.flush && is_eq (set_key_cmp set (set_key_of h.heard))

-- the moments of the flushes of a set, in the order of the list; `IsFlushedAt` says which they are
abbrev pub flush_moments : List Hearing → RecordSet → List ℕ
flush_moments [] set = []
flush_moments (h ∷ hs) set =
    if is_flush_of set h then h.moment.nanos ∷ flush_moments hs set else flush_moments hs set
