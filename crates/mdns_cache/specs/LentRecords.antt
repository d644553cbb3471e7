-- The values of the rows that a cache lends, and the ends that it finds.
use Rattle.std.specs.Prelude.{◌≡◌, ℕ, ◌+◌, min, true, false, nat_lt, nat_le, unwrap_or, if◌then◌else◌, List, [], ◌∷◌}
use Rattle.std.specs.List.Sorted.{IsPartitionPoint}
use Rattle.mdns_capture.specs.{declared.moment.Moment.{Moment}, Limits.{second}}
use Rattle.mdns_message.specs.{declared.key.Key.{Key}, RecordSet.{RecordSet}, Resource.{set_key_cmp}}
use Rattle.mdns_join.specs.declared.latest.Latest.{Latest}
use Rattle.join_map.specs.Entries.{value_at}
use Rattle.mdns_cache.specs.{declared.cache.Last.{Last}, declared.live.LiveRecord.{LiveRecord}, Live.{life_of}}

-- the value of a lent last hearing
abbrev pub last_lent : Last → Latest
last_lent last = record { moment = last.moment; ttl = last.ttl; resource = last.resource.now }

-- the value of a lent live record: its last hearing and its end
abbrev pub live_record_lent : LiveRecord → Latest × ℕ
live_record_lent r = (last_lent r.last, r.end)

-- the end of a record last heard at t, whose life runs out at `out`, its set being flushed at the moments
abbrev pub end_of : List ℕ → ℕ → ℕ → ℕ
end_of [] t out = out
end_of (m ∷ ms) t out = if nat_lt (t + second) m then min (m + second) (end_of ms t out) else end_of ms t out

-- exactly the first `count` flush moments are too early to strike a record heard at t
abbrev pub AreEarlyUpTo : ℕ → List Moment → ℕ → Type 0
AreEarlyUpTo t moments count =
    IsPartitionPoint (λ m. nat_le m.nanos (t + second) ≡ true) (λ m. nat_le m.nanos (t + second) ≡ false) moments count

-- the end of an entry, by the flush moments held for its set
abbrev pub end_held : List (RecordSet × List ℕ) → Key × Latest → ℕ
end_held flushes e =
    end_of (unwrap_or (value_at set_key_cmp e.0.set flushes) []) e.1.moment.nanos (e.1.moment.nanos + life_of e.1.ttl)

-- the last hearings of the entries that end later than `now`, each with its end
abbrev pub live_of : List (RecordSet × List ℕ) → ℕ → List (Key × Latest) → List (Latest × ℕ)
live_of flushes now [] = []
live_of flushes now (e ∷ es) =
    if nat_lt now (end_held flushes e) then (e.1, end_held flushes e) ∷ live_of flushes now es else live_of flushes now es
