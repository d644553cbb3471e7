use Rattle.std.proofs.{Common.{◌+◌, rules}, lemmas.List.Sorted.{IsPartitionPoint-from_clause}}
use Rattle.std.specs.Prelude.{nat_le}
use Rattle.mdns_capture.specs.{declared.moment.Moment.{Moment}, Limits.{second}}
use Rattle.mdns_cache.proofs.FirstLaterLemmas.{early_first}
use Rattle.mdns_cache.proofs.flush.count_early.Goals as goal

pub returns-clause-early : goal.returns-clause-early
returns-clause-early c =
    IsPartitionPoint-from_clause (λ (m : Moment). nat_le m.nanos (c.args.heard.nanos + second)) c.args.flushes.now
    c.partition_point.result c.partition_point.ensures.partitioned
    (early_first c.args.heard.nanos c.args.flushes.now c.requires) (λ a r q k. search rules)
