-- The order of last hearings is total and exact, so that taking the later is a join.
use Rattle.std.specs.Prelude.{◌≡◌, ◌≤◌}
use Rattle.std.specs.declared.cmp.{Ordering.{Ordering}, Ordering.TheVariants.{Less, Equal, Greater}}
use Rattle.std.specs.{Ordering.{nat_cmp, ordering_then}, Cmp.{IsTotalOrder, nat_cmp_total, on_total, then_total}}
use Rattle.std.proofs.lemmas.Map.Lookups.{exact_unsigned}
use mathlib.Core.HLevel.{is_prop→PathP}
use native.Mathlib.Bridge.{le_prop}
use Rattle.mdns_capture.specs.{Limits.{greatest_moment}, declared.moment.Moment.{Moment}}
use Rattle.mdns_message.specs.{Resource.{resource_cmp}, laws.Resource.{resource_cmp-exact, resource_cmp-total}}
use Rattle.join_map.specs.{Join.{JoinLaws}, laws.Join.{greater_of-laws}}
use Rattle.mdns_join.specs.{declared.latest.Latest.{Latest}, Latest.{IsLatest, latest_cmp, later}}

-- a moment is its nanoseconds
pub moment-same : (m n : Moment) → m.nanos ≡ n.nanos → m ≡ n
moment-same m n e = λ i. record { nanos = e i; limit = is_prop→PathP (λ j. e j ≤ greatest_moment) (λ j. le_prop) m.limit n.limit i }

then_parts : (o p : Ordering) → ordering_then o p ≡ Equal → (o ≡ Equal) × (p ≡ Equal)
then_parts Less p h = absurd (cc)
then_parts Equal p h = (λ i. Equal, h)
then_parts Greater p h = absurd (cc)

-- last hearings that compare equal are the same value
pub latest_cmp-exact : (a b : Latest) → latest_cmp a b ≡ Equal → a ≡ b
latest_cmp-exact a b h =
    let parts = then_parts (nat_cmp a.moment.nanos b.moment.nanos)
    (ordering_then (nat_cmp a.ttl b.ttl) (resource_cmp a.resource b.resource)) h in
    let rest = then_parts (nat_cmp a.ttl b.ttl) (resource_cmp a.resource b.resource) parts.1 in
    let moment = moment-same a.moment b.moment (exact_unsigned a.moment.nanos b.moment.nanos parts.0) in
    let ttl = exact_unsigned a.ttl b.ttl rest.0 in
    let resource = resource_cmp-exact a.resource b.resource rest.1 in
    λ i. record { moment = moment i; ttl = ttl i; resource = resource i }

pub latest_cmp-total : IsTotalOrder latest_cmp
latest_cmp-total = then_total (on_total (λ (l : Latest). l.moment) (on_total (λ (m : Moment). m.nanos) nat_cmp_total))
    (then_total (on_total (λ (l : Latest). l.ttl) nat_cmp_total)
    (on_total (λ (l : Latest). l.resource) resource_cmp-total))

-- taking the later obeys the laws of a join
pub later-laws : JoinLaws IsLatest later
later-laws = greater_of-laws latest_cmp-total latest_cmp-exact IsLatest
