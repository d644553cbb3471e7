-- The lives of a record by a walk over its hearings in order.
use Rattle.std.specs.Prelude.{◌≡◌, ℕ, Bool, ◌+◌, ◌≤◌, ◌==◌, ◌&&◌, nat_lt, nat_le, if◌then◌else◌, List, [], ◌∷◌, Option, None, Some}
use Rattle.mdns_capture.specs.declared.moment.Moment.{Moment}
use Rattle.mdns_lives.specs.declared.life.{RecordHearing.{RecordHearing}, Life.{Life}, EndReason.{EndReason}}
use Rattle.mdns_lives.specs.declared.life.EndReason.TheVariants.{Expired, Goodbye, Flushed}
use Rattle.mdns_cache.specs.{Live.{life_of}, LentRecords.{end_of}}

-- when the life of a hearing runs out
abbrev pub out_of : RecordHearing → ℕ
out_of h = h.moment.nanos + life_of h.ttl

-- the end of a record whose last hearing is this one
abbrev pub end_after : List ℕ → RecordHearing → ℕ
end_after flushes h = end_of flushes h.moment.nanos (out_of h)

-- both lists of flush moments give the same end to each record that was last heard at the moment `low` or later
abbrev pub GiveSameEnds : ℕ → List ℕ → List ℕ → Type 0
GiveSameEnds low fs gs = (t out : ℕ) → low ≤ t → end_of fs t out ≡ end_of gs t out

-- and why it ends
abbrev pub reason_after : List ℕ → RecordHearing → EndReason
reason_after flushes h =
    if nat_lt (end_after flushes h) (out_of h) then Flushed else (if h.ttl == 0 then Goodbye else Expired)

-- the life that begins and ends with a hearing, and tells no goodbye yet
abbrev pub life_after : List ℕ → RecordHearing → Life
life_after flushes h =
    record { from = h.moment; last = h; until = end_after flushes h; reason = reason_after flushes h; taken_back = None }

-- the life that goes on into the next one
abbrev pub carried_on : Life → Life → Life
carried_on life next =
    record { from = life.from; last = next.last; until = next.until; reason = next.reason; taken_back = next.taken_back }

-- the lives, the first of which is `life` as of the hearings before these
unfoldable pub lives_from : List ℕ → Life → List RecordHearing → List Life
lives_from flushes life [] = life ∷ []
lives_from flushes life (h ∷ hs) =
    if nat_le h.moment.nanos life.until then lives_from flushes (carried_on life (life_after flushes h)) hs
    else life ∷ lives_from flushes (life_after flushes h) hs

-- the lives that hearings in order give
abbrev pub walked : List ℕ → List RecordHearing → List Life
walked flushes [] = []
walked flushes (h ∷ hs) = lives_from flushes (life_after flushes h) hs

-- the life takes the goodbye back (`TakesBack`)
abbrev pub takes_back : Life → Moment → Bool
takes_back life goodbye =
    nat_le life.from.nanos goodbye.nanos && nat_le goodbye.nanos life.last.moment.nanos && nat_lt 0 life.last.ttl

-- the goodbye, if the life takes it back
abbrev pub taken_back_in : Life → Option Moment → Option Moment
taken_back_in life None = None
taken_back_in life (Some goodbye) = if takes_back life goodbye then Some goodbye else None

-- the life, which tells the record's latest goodbye if it takes it back
abbrev pub with_taken_back : Option Moment → Life → Life
with_taken_back goodbye life = record {
  from = life.from;
  last = life.last;
  until = life.until;
  reason = life.reason;
  taken_back = taken_back_in life goodbye;
}
