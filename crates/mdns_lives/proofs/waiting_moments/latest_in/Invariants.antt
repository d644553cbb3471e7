use Rattle.std.proofs.Common.{ℕ, ◌<◌, ◌≤◌, Contains, length, get_or}
use Rattle.mdns_capture.specs.declared.moment.Moment.{Moment}
use Rattle.mdns_lives.proofs.waiting_moments.latest_in.Given as goal

-- none of the moments so far is later
abbrev pub invariant-loop-moment : goal.invariant-loop-moment
invariant-loop-moment l = record {
  among : Contains l.moments l.latest;
  by : (j : ℕ) (d : Moment) → j < l.moment-index → j < length l.moments → (get_or l.moments j d).nanos ≤ l.latest.nanos;
}
