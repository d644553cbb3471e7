-- The hearings of a record by whole seconds: of each second the least and the greatest, by their moments, then TTLs.
use Rattle.std.specs.Prelude.{◌≡◌, ◌≢◌, ◌<◌, ◌≤◌, ◌⊎◌, ℕ, ◌*◌, ◌/◌, length, take, List, [], ◌∷◌, Option, None, Some}
use Rattle.std.specs.Prelude.{MatchOption, Contains}
use Rattle.std.specs.{declared.cmp.Ordering.{Ordering}, Ordering.{nat_cmp, on, then_cmp, flip_args}}
use Rattle.join_map.specs.{Entries.{value_at, put_entry, joined, one_entry, IsJoinMap}, Join.{greater_of}}
use Rattle.mdns_capture.specs.Limits.{second}
use Rattle.mdns_lives.specs.{declared.life.RecordHearing.{RecordHearing}, History.{IsUpTo, AreInOrder}}

-- hearings of a record in the order of their moments, then TTLs
abbrev pub heard_cmp : RecordHearing → RecordHearing → Ordering
heard_cmp = then_cmp (on (λ h. h.moment) (on (λ m. m.nanos) nat_cmp)) (on (λ h. h.ttl) nat_cmp)

-- the whole second that a hearing is in
abbrev pub second_of : RecordHearing → ℕ
second_of h = h.moment.nanos / second

-- ---- the ends of seconds

-- among the hearings that are there, one counts no more than this one and one no less, both in its second
pub record IsBetween (IsThere : RecordHearing → Type 0) (h : RecordHearing) : Type 0 where
  pub least : RecordHearing
  pub greatest : RecordHearing
  pub least_there : IsThere least
  pub greatest_there : IsThere greatest
  pub least_in : second_of least ≡ second_of h
  pub greatest_in : second_of greatest ≡ second_of h
  pub from_least : IsUpTo least h
  pub to_greatest : IsUpTo h greatest

-- the ends are some of the hearings, and each hearing is between two of them
pub record AreEndsOf (heard ends : List RecordHearing) : Type 0 where
  pub among : (h : RecordHearing) → Contains ends h → Contains heard h
  pub between : (h : RecordHearing) → Contains heard h → IsBetween (Contains ends) h

-- hearings in order stay so, and lie between those that are left
pub record IsThinned (hs es : List RecordHearing) : Type 0 where
  pub in_order : AreInOrder hs → AreInOrder es
  pub ends : AreInOrder hs → AreEndsOf hs es

-- of three hearings in a row, the third is of a later second than the first
abbrev pub IsSparse : List RecordHearing → Type 0
IsSparse [] = Unit {0}
IsSparse (a ∷ []) = Unit {0}
IsSparse (a ∷ b ∷ []) = Unit {0}
IsSparse (a ∷ b ∷ c ∷ hs) = (second_of a < second_of c) × IsSparse (b ∷ c ∷ hs)

-- the least and the greatest hearing of a second
pub record Ends : Type 0 where
  pub least : RecordHearing
  pub greatest : RecordHearing

-- ends by their parts
abbrev pub ends : RecordHearing → RecordHearing → Ends
ends least greatest = record { least = least; greatest = greatest }

-- these are the ends of the second s of the hearings that are there
pub record AreEnds (IsThere : RecordHearing → Type 0) (s : ℕ) (e : Ends) : Type 0 where
  pub least_there : IsThere e.least
  pub greatest_there : IsThere e.greatest
  pub least_in : second_of e.least ≡ s
  pub greatest_in : second_of e.greatest ≡ s
  pub between : (h : RecordHearing) → IsThere h → second_of h ≡ s → IsUpTo e.least h × IsUpTo h e.greatest

-- none of the hearings that are there is in the second s
abbrev pub IsUnheardIn : (RecordHearing → Type 0) → ℕ → Type 0
IsUnheardIn IsThere s = (h : RecordHearing) → IsThere h → second_of h ≢ s

-- the ends of the second s, if a hearing that is there is in it
abbrev pub AreEndsIn : (RecordHearing → Type 0) → ℕ → Option Ends → Type 0
AreEndsIn IsThere s o = MatchOption o (IsUnheardIn IsThere s) (AreEnds IsThere s)

-- ---- all seconds

-- seconds with their ends
abbrev pub Seconds : Type 0
Seconds = List (ℕ × Ends)

-- the lesser of the least hearings, and the greater of the greatest
abbrev pub join_ends : Ends → Ends → Ends
join_ends a b = ends (greater_of (flip_args heard_cmp) a.least b.least) (greater_of heard_cmp a.greatest b.greatest)

-- nothing is asked of ends
abbrev pub IsEnds : Ends → Type 0
IsEnds e = Unit {0}

-- the seconds are in order, each once
abbrev pub IsSeconds : Seconds → Type 0
IsSeconds seconds = IsJoinMap nat_cmp IsEnds seconds

-- the seconds of either side
abbrev pub join_seconds : Seconds → Seconds → Seconds
join_seconds xs ys = joined nat_cmp join_ends xs ys

-- the second of one hearing
abbrev pub only : RecordHearing → Seconds
only h = one_entry (second_of h) (ends h h)

-- the seconds of the hearings of a list
unfoldable pub seconds_of : List RecordHearing → Seconds
seconds_of [] = []
seconds_of (h ∷ hs) = put_entry nat_cmp join_ends (seconds_of hs) (second_of h) (ends h h)

-- some of the first hearings of a list were joined
abbrev pub JoinsFirst : Seconds → List RecordHearing → Seconds → Type 0
JoinsFirst old hs new = (n : ℕ) × (new ≡ join_seconds old (seconds_of (take n hs)))

-- those that are kept are sparse, or no more than 32 are left
abbrev pub IsThin : (kept : List RecordHearing) (left : ℕ) → Type 0
IsThin kept left = (left ≤ 32) ⊎ IsSparse kept

-- room for at most twice what is held as long as that is fewer than 32 hearings; and for fewer than 128, or for four in each second
abbrev pub IsRoomFor : Seconds → (held room : ℕ) → Type 0
IsRoomFor seconds held room = ((room ≤ 2 * held) ⊎ (32 ≤ held)) × ((room < 128) ⊎ (room ≤ 4 * length seconds))

-- no more room than before, or for at most twice what is held
abbrev pub HasRoomAfter : (before room held : ℕ) → Type 0
HasRoomAfter before room held = (room ≤ before) ⊎ (room ≤ 2 * held)

-- what seconds that may be there hold of the second s
abbrev pub ends_at : ℕ → Option Seconds → Option Ends
ends_at s None = None
ends_at s (Some seconds) = value_at nat_cmp s seconds

-- the hearings that are held, in order
abbrev pub listed_ends : Seconds → List RecordHearing
listed_ends [] = []
listed_ends (e ∷ es) = e.1.least ∷ e.1.greatest ∷ listed_ends es
