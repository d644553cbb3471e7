-- Seconds are joined by laws.
use Rattle.std.specs.{Prelude.{◌≡◌}, declared.cmp.Ordering.TheVariants.{Equal}, Ordering.{nat_cmp}}
use Rattle.std.specs.Cmp.{IsTotalOrder, nat_cmp_total, on_total, then_total, back_total}
use Rattle.std.proofs.{Common.{sym}, lemmas.Map.Lookups.{exact_unsigned}}
use Rattle.mdns_message.specs.laws.Resource.{both_tie}
use Rattle.mdns_join.specs.laws.Latest.{moment-same}
use Rattle.mdns_capture.specs.declared.moment.Moment.{Moment}
use Rattle.join_map.specs.{Join.{JoinLaws}, laws.Join.{greater_of-laws}, laws.Entries.{joined-laws}}
use Rattle.mdns_lives.specs.declared.life.RecordHearing.{RecordHearing}
use Rattle.mdns_lives.specs.Seconds.{heard_cmp, ends, join_ends, join_seconds, IsEnds, IsSeconds}

pub heard_cmp-total : IsTotalOrder heard_cmp
heard_cmp-total = then_total (on_total (λ (h : RecordHearing). h.moment) (on_total (λ (m : Moment). m.nanos) nat_cmp_total))
    (on_total (λ (h : RecordHearing). h.ttl) nat_cmp_total)

pub heard_cmp-exact : (a b : RecordHearing) → heard_cmp a b ≡ Equal → a ≡ b
heard_cmp-exact a b h =
    let ties = both_tie (nat_cmp a.moment.nanos b.moment.nanos) (nat_cmp a.ttl b.ttl) h in
    let moment = moment-same a.moment b.moment (exact_unsigned a.moment.nanos b.moment.nanos ties.0) in
    let ttl = exact_unsigned a.ttl b.ttl ties.1 in
    λ i. record { moment = moment i; ttl = ttl i }

pub ends-laws : JoinLaws IsEnds join_ends
ends-laws =
    let least = greater_of-laws (back_total heard_cmp-total) (λ a b e. sym (heard_cmp-exact b a e)) (λ _. Unit {0}) in
    let greatest = greater_of-laws heard_cmp-total heard_cmp-exact (λ _. Unit {0}) in
    record {
      idempotent = λ a u. (let l = least.idempotent a.least tt in
          let g = greatest.idempotent a.greatest tt in λ i. ends (l i) (g i));
      commutative = λ a b u v. (let l = least.commutative a.least b.least tt tt in
          let g = greatest.commutative a.greatest b.greatest tt tt in λ i. ends (l i) (g i));
      associative = λ a b c u v w. (let l = least.associative a.least b.least c.least tt tt tt in
          let g = greatest.associative a.greatest b.greatest c.greatest tt tt tt in λ i. ends (l i) (g i));
      keeps = λ a b u v. tt;
    }

pub seconds-laws : JoinLaws IsSeconds join_seconds
seconds-laws = joined-laws nat_cmp_total exact_unsigned ends-laws
