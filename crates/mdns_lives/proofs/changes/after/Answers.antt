use Rattle.std.proofs.Common.{◌∙◌, ap, rules}
use Rattle.std.proofs.lemmas.{List.{take_rest}, List.Sorted.{IsPartitionPoint-from_clause, IsPartitionedBy-leb}}
use Rattle.std.specs.Prelude.{nat_le}
use Rattle.mdns_capture.specs.declared.moment.Moment.{Moment}
use Rattle.mdns_join.specs.Nanos.{nanos_of}
use Rattle.mdns_lives.proofs.ChangesLemmas.{later-first, later-rest, rising}
use Rattle.mdns_lives.proofs.changes.after.Goals as goal

pub returns-in-Some : goal.returns-in-Some
returns-in-Some c =
    later-first c.in-Some.first.now.nanos c.args.from.nanos (nanos_of c.in-Some.rest.now) (nanos_of c.args.moments.now)
    (ap nanos_of c.in-Some.ensures.cases.0) (search rules) c.requires

pub returns-in_default : goal.returns-in_default
returns-in_default c =
    let moments = c.args.moments.now in
    let point = IsPartitionPoint-from_clause (λ (m : Moment). nat_le m.nanos c.args.from.nanos) moments c.partition_point.result
    c.partition_point.ensures.partitioned
    (IsPartitionedBy-leb (λ (m : Moment). m.nanos) moments c.args.from.nanos (rising moments c.requires)) (λ a r q k. search rules) in
    ap nanos_of (take_rest moments c.partition_point.result) ∙ later-rest c.args.from.nanos moments c.partition_point.result point
