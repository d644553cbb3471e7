use Rattle.std.proofs.{Common.{nat_lt, rules}, lemmas.List.Sorted.{IsPartitionPoint-from_clause}}
use Rattle.mdns_capture.specs.declared.moment.Moment.{Moment}
use Rattle.mdns_join.proofs.MomentLemmas.{place_of-point, ascending_point}
use Rattle.mdns_join.proofs.prune.place.Goals as goal

pub returns-clause-at : goal.returns-clause-at
returns-clause-at c =
    place_of-point c.args.bound c.args.items.now c.partition_point.result c.partition_point.ensures.bound
    (IsPartitionPoint-from_clause (λ (m : Moment). nat_lt m.nanos c.args.bound) c.args.items.now
    c.partition_point.result c.partition_point.ensures.partitioned
    (ascending_point c.args.bound c.args.items.now c.requires) (λ a r q k. search rules))
