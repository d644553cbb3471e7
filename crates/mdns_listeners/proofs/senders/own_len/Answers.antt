use Rattle.std.proofs.Common.{rules, tests}
use Rattle.std.proofs.lemmas.List.Sorted.{IsPartitionPoint-from_clause}
use Rattle.mdns_listeners.specs.Senders.{is_from}
use Rattle.mdns_listeners.proofs.senders.own_len.Goals as goal

pub returns-clause-count : goal.returns-clause-count
returns-clause-count c parts =
    IsPartitionPoint-from_clause (is_from c.args.sender.now) c.args.rows.now c.partition_point.result c.partition_point.ensures.partitioned
    parts (λ a r q k. search (rules, tests))
