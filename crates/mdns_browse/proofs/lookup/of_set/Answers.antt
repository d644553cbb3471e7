use Rattle.std.proofs.{Common.{rules, length, take, drop, ◌-◌}, lemmas.List.Sorted.{IsPartitionPoint-from_clause}}
use Rattle.std.specs.Ordering.{is_lt, is_le}
use Rattle.mdns_message.specs.Resource.{type_number}
use Rattle.mdns_cache.specs.{Live.{key_of_last}, LentRecords.{last_lent}, declared.cache.Last.{Last}}
use Rattle.mdns_browse.specs.Services.{set_for}
use Rattle.mdns_browse.proofs.SearchLemmas.{against, parted_below, parted_after, filter-rest, set-found, after_whole, ascending_seen}
use Rattle.mdns_browse.proofs.lookup.of_set.Goals as goal

pub returns : goal.returns
returns c ascending =
    let rows = c.args.rows.now in
    let owner = c.args.owner.now in
    let number = type_number c.args.record_type in
    let first = c.partition_point-first.result in
    let count = c.partition_point-count.result in
    let after = take (length rows - first) (drop first rows) in
    let key = λ (r : Last). key_of_last (last_lent r) in
    let set = set_for owner number in
    let sorted = ascending_seen last_lent rows ascending in
    let whole = after_whole rows first in
    set-found last_lent owner number rows (take count after)
    (filter-rest (against key set) rows after first count whole c.partition_point-count.ensures.bound
    (IsPartitionPoint-from_clause (λ r. is_lt (against key set r)) rows first c.partition_point-first.ensures.partitioned
    (parted_below key set rows sorted) (λ a r q k. search rules))
    (IsPartitionPoint-from_clause (λ r. is_le (against key set r)) after count c.partition_point-count.ensures.partitioned
    (parted_after key set rows after first whole sorted) (λ a r q k. search rules)))
