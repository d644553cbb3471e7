use Rattle.std.proofs.{Common.{◌-◌, List, drop, length, rules, take}, lemmas.List.Sorted.{IsPartitionPoint-from_clause}}
use Rattle.std.specs.Ordering.{is_eq, is_le, is_lt}
use Rattle.mdns_message.specs.Resource.{set_key_cmp, type_number}
use Rattle.mdns_message.specs.declared.record_type.RecordType.TheVariants as kind
use Rattle.mdns_join.specs.declared.latest.Latest.{Latest}
use Rattle.mdns_cache.specs.{Live.{key_of_last}, LentRecords.{last_lent}}
use Rattle.mdns_lives.specs.{LentLives.{row_lent}, declared.life.Life.{Life}, declared.lives.RecordLives.{RecordLives}}
use Rattle.mdns_browse.specs.Services.{set_for}
use Rattle.mdns_browse.proofs.SearchLemmas.{after_whole, against, filter-rest, parted_after, parted_below}
use Rattle.mdns_page.proofs.ServerLemmas.{ascending-lent, passing-lent}
use Rattle.mdns_page.proofs.servers.servers_named.Goals as goal

pub returns : goal.returns
returns c ascending =
    let rows = c.args.rows.now in
    let first = c.partition_point-first.result in
    let count = c.partition_point-count.result in
    let after = take (length rows - first) (drop first rows) in
    let key = λ (row : RecordLives). key_of_last (last_lent row.last) in
    let set = set_for c.args.name.now (type_number kind.Srv) in
    let sorted = ascending-lent row_lent rows ascending in
    let whole = after_whole rows first in
    let below =
    IsPartitionPoint-from_clause (λ row. is_lt (against key set row)) rows first c.partition_point-first.ensures.partitioned
    (parted_below key set rows sorted) (λ a r q k. search rules) in
    let upto =
    IsPartitionPoint-from_clause (λ row. is_le (against key set row)) after count c.partition_point-count.ensures.partitioned
    (parted_after key set rows after first whole sorted) (λ a r q k. search rules) in
    passing-lent row_lent rows (take count after) (λ (row : Latest × List Life). is_eq (set_key_cmp (key_of_last row.0).set set))
    (filter-rest (against key set) rows after first count whole c.partition_point-count.ensures.bound below upto)
