-- Hearings of a record as they are kept: the whole seconds of the moment, the nanoseconds past them, and the TTL.
use Rattle.std.specs.Prelude.{◌≡◌, ℕ, ◌+◌, ◌*◌, ◌/◌, ◌%◌, ◌<◌, ◌≤◌}
use Rattle.std.proofs.Common.{arith}
use mathlib.Core.HLevel.{is_prop→PathP}
use native.Mathlib.Bridge.{le_prop}
use Rattle.mdns_capture.specs.Limits.{second, greatest_moment}
use Rattle.mdns_lives.specs.declared.{life.RecordHearing.{RecordHearing}, packed_hearing.PackedHearing.TheInside.{Inside}}

-- the hearing that is kept
abbrev pub heard_in : Inside → RecordHearing
heard_in a = record { moment = record { nanos = a.seconds * second + a.nanos; limit = a.limit }; ttl = a.ttl }

-- the nanoseconds past the second are less than a second
abbrev pub AreParts : Inside → Type 0
AreParts a = a.nanos < second

-- put together again they are within the limit of moments
pub within_limit : (n : ℕ) → n ≤ greatest_moment → n / second * second + n % second ≤ greatest_moment
within_limit n low = omega (arith, low)

-- how a hearing is kept
abbrev pub packed_as : RecordHearing → Inside
packed_as h = record {
  nanos = h.moment.nanos % second;
  seconds = h.moment.nanos / second;
  ttl = h.ttl;
  limit = within_limit h.moment.nanos h.moment.limit;
}

-- nothing is lost
pub packed_as-heard_in : (a : Inside) → AreParts a → packed_as (heard_in a) ≡ a
packed_as-heard_in a parts =
    let n = a.seconds * second + a.nanos in
    let seconds : n / second ≡ a.seconds = omega (arith, parts) in
    let nanos : n % second ≡ a.nanos = omega (arith, parts) in
    let again = within_limit n a.limit in
    λ i. record {
      nanos = nanos i;
      seconds = seconds i;
      ttl = a.ttl;
      limit = is_prop→PathP (λ j. seconds j * second + nanos j ≤ greatest_moment) (λ j. le_prop) again a.limit i;
    }
