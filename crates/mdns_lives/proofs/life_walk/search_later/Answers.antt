use Rattle.std.proofs.{Common.{◌+◌, rules, arith}, lemmas.List.Sorted.{IsPartitionPoint-from_clause}}
use Rattle.std.specs.Prelude.{nat_le}
use Rattle.mdns_capture.specs.{declared.moment.Moment.{Moment}, Limits.{second}}
use Rattle.mdns_cache.specs.LentRecords.{AreEarlyUpTo}
use Rattle.mdns_cache.proofs.FirstLaterLemmas.{early_first}
use Rattle.mdns_lives.proofs.LaterLemmas.{early_dropped}
use Rattle.mdns_lives.proofs.life_walk.search_later.Goals as goal

point : (c : goal.After-result-1) → AreEarlyUpTo c.args.heard.nanos c.args.flushes.now c.partition_point.result
point c =
    IsPartitionPoint-from_clause (λ (m : Moment). nat_le m.nanos (c.args.heard.nanos + second)) c.args.flushes.now
    c.partition_point.result c.partition_point.ensures.partitioned
    (early_first c.args.heard.nanos c.args.flushes.now c.requires) (λ a r q k. search rules)

pub returns-clause-later : goal.returns-clause-later
returns-clause-later c = grind (arith, early_dropped c.args.heard.nanos c.args.flushes.now c.partition_point.result c.requires (point c))

pub returns-clause-same : goal.returns-clause-same
returns-clause-same c = grind (arith, early_dropped c.args.heard.nanos c.args.flushes.now c.partition_point.result c.requires (point c))
