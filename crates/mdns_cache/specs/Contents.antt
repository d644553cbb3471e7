-- The contents of a cache, and the hearings that they stand for.
use Rattle.std.specs.Prelude.{◌≡◌, ℕ, ◌≤◌, true, nat_lt, if◌then◌else◌, List, [], ◌∷◌, Option, None, Some, MatchOption, IsSomeAnd}
use Rattle.mdns_capture.specs.declared.moment.Moment.{Moment}
use Rattle.mdns_message.specs.{declared.hearing.Hearing.{Hearing}, declared.key.Key.{Key}, RecordSet.{RecordSet}}
use Rattle.mdns_message.specs.Resource.{key_of, set_key_of, key_cmp, set_key_cmp}
use Rattle.mdns_join.specs.{declared.latest.Latest.{Latest}, Latest.{IsLatest, later, latest_of}, Kept.{has, kept, kept_union, IsKeptList}}
use Rattle.join_map.specs.{Join.{JoinLaws}, Entries.{value_at, joined_at, IsJoinMap, joined, one_entry}}
use Rattle.mdns_cache.specs.Live.{IsUnheard, IsLast, IsNewest, flush_moments}

-- the contents of a cache: the last hearing of each record, the flush moments kept for each record set, both in key
-- order, and the newest moment
pub record Contents : Type 0 where
  pub lasts : List (Key × Latest)
  pub flushes : List (RecordSet × List ℕ)
  pub newest : Option Moment

-- contents by their parts
abbrev pub contents : List (Key × Latest) → List (RecordSet × List ℕ) → Option Moment → Contents
contents lasts flushes newest = record { lasts = lasts; flushes = flushes; newest = newest }

-- the last hearing held for a record
abbrev pub last_at : Key → Contents → Option Latest
last_at key c = value_at key_cmp key c.lasts

-- the flush moments held for a record set
abbrev pub flushes_at : RecordSet → Contents → Option (List ℕ)
flushes_at set c = value_at set_key_cmp set c.flushes

-- the moment is no later than the newest one
abbrev pub IsUpTo : Option Moment → ℕ → Type 0
IsUpTo newest m = IsSomeAnd newest (λ n. m ≤ n.nanos)

-- both maps are in key order, and no moment held is later than the newest
pub record IsContents (c : Contents) : Type 0 where
  pub lasts : IsJoinMap key_cmp IsLatest c.lasts
  pub flushes : IsJoinMap set_key_cmp IsKeptList c.flushes
  pub lasts_by_newest : (key : Key) (l : Latest) → last_at key c ≡ Some l → IsUpTo c.newest l.moment.nanos
  pub flushes_by_newest : (set : RecordSet) (ms : List ℕ) (m : ℕ) → flushes_at set c ≡ Some ms → has ms m ≡ true → IsUpTo c.newest m

-- the later of two moments
abbrev pub later_moment : Moment → Moment → Moment
later_moment a b = if nat_lt a.nanos b.nanos then b else a

-- the join of contents: of each record the later last, of each set what is kept of both sides' flush moments, and the
-- later newest moment
unfoldable pub join_of : Contents → Contents → Contents
join_of c d = record {
  lasts = joined key_cmp later c.lasts d.lasts;
  flushes = joined set_key_cmp kept_union c.flushes d.flushes;
  newest = joined_at later_moment c.newest d.newest;
}

-- the joins of the two maps obey the laws of a join
unfoldable pub MapLaws : Type 0
MapLaws = JoinLaws (IsJoinMap key_cmp IsLatest) (joined key_cmp later)
    × JoinLaws (IsJoinMap set_key_cmp IsKeptList) (joined set_key_cmp kept_union)

-- the flush moments that are held for a set: no entry if there are none
abbrev pub kept_of : List ℕ → Option (List ℕ)
kept_of [] = None
kept_of (m ∷ ms) = Some (kept (m ∷ ms))

-- the contents stand for the hearings: each record has its last, each record set what is kept of its flush moments, and
-- the newest moment is there; nothing else is held
pub record StandsFor (c : Contents) (heard : List Hearing) : Type 0 where
  pub contents : IsContents c
  pub lasts : (key : Key) → MatchOption (last_at key c) (IsUnheard heard key) (IsLast heard key)
  pub flushes : (set : RecordSet) → flushes_at set c ≡ kept_of (flush_moments heard set)
  pub newest : MatchOption c.newest (heard ≡ []) (IsNewest heard)

-- nothing was heard
abbrev pub no_contents : Contents
no_contents = record { lasts = []; flushes = []; newest = None }

-- the flush moments of one hearing with the cache-flush bit
abbrev pub flush_of : Hearing → List (RecordSet × List ℕ)
flush_of h = one_entry (set_key_of h.heard) (h.moment.nanos ∷ [])

-- the contents of one hearing
abbrev pub contents_of : Hearing → Contents
contents_of h = record {
  lasts = one_entry (key_of h.heard) (latest_of h);
  flushes = if h.flush then flush_of h else [];
  newest = Some h.moment;
}
