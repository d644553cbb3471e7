use Rattle.std.proofs.Common.{◌-◌, ◌∙◌, ap, drop, length, map, rules, subst, sym, take}
use Rattle.std.proofs.lemmas.List.Sorted.{IsNonDecreasingBy-drop, IsPartitionPoint-from_clause, searchable_from_sorted}
use Rattle.std.specs.{Cmp.Lexicographic.{nat_list_cmp_total, slice_cmp}, List.Sorted.{IsNonDecreasingBy}}
use Rattle.std.specs.Ordering.{is_le, is_lt, nat_cmp, ordering_index}
use Rattle.dns_name.specs.Name.{folded}
use Rattle.mdns_browse.specs.{Hosts.{is_on, served_lent}, Services.{same_text}, declared.host.HostedInstance.{HostedInstance}}
use Rattle.mdns_browse.proofs.SearchLemmas.{after_whole, filter-map, filter-rest, rising-le, rising-lt}
use Rattle.mdns_browse.proofs.host.services_on.Goals as goal

pub returns : goal.returns
unfolding same_text
returns c sorted =
    let services = c.args.services.now in
    let name = c.args.name.now in
    let first = c.partition_point-first.result in
    let count = c.partition_point-count.result in
    let after = take (length services - first) (drop first services) in
    let ord = λ (it : HostedInstance). slice_cmp nat_cmp (folded it.target.now) (folded name) in
    let whole = after_whole services first in
    let rises = searchable_from_sorted nat_list_cmp_total (λ (it : HostedInstance). folded it.target.now) services (folded name) sorted in
    let left = subst (λ rows. IsNonDecreasingBy (λ it. ordering_index (ord it)) rows) (sym whole)
    (IsNonDecreasingBy-drop (λ it. ordering_index (ord it)) first services rises) in
    ap (map served_lent)
    (sym
    (filter-rest ord services after first count whole c.partition_point-count.ensures.bound
    (IsPartitionPoint-from_clause (λ it. is_lt (ord it)) services first c.partition_point-first.ensures.partitioned
    (rising-lt ord services rises) (λ a r q k. search rules))
    (IsPartitionPoint-from_clause (λ it. is_le (ord it)) after count c.partition_point-count.ensures.partitioned
    (rising-le ord after left) (λ a r q k. search rules))))
    ∙ sym (filter-map served_lent (is_on name) services)
