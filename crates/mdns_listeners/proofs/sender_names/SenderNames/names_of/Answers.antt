use Rattle.std.proofs.Common.{ap, ◌∙◌, subst, rules, List, length, take, drop, ◌-◌, ℕ, ◌+◌, ◌≡◌, arith}
use Rattle.std.specs.Ordering.{is_lt, is_le}
use Rattle.std.proofs.lemmas.List.Sorted.{IsPartitionPoint-from_clause}
use Rattle.mdns_browse.proofs.SearchLemmas.{after_whole}
use Rattle.mdns_capture.specs.declared.source_address.SourceAddress.{SourceAddress}
use Rattle.mdns_listeners.specs.SenderNames.{AreNames, address_cmp}
use Rattle.mdns_listeners.proofs.ListedNameLemmas.{parted_below, parted_after, names_found}
use Rattle.mdns_listeners.proofs.sender_names.SenderNames.names_of.Goals as goal

pub returns : goal.returns
returns c heard lists =
    let sender = c.args.sender.now in
    let sources = c.as_slice-sources.result.now in
    let names = c.as_slice-names.result.now in
    let first = c.partition_point-first.result in
    let count = c.partition_point-count.result in
    let after = take (length sources - first) (drop first sources) in
    let whole = after_whole sources first in
    let sources_are = c.as_slice-sources.ensures.value ∙ ap (λ (l : List SourceAddress × List (List ℕ)). l.0) c.self.view_is
    ∙ lists.sources in
    let names_are = c.as_slice-names.ensures.value ∙ ap (λ (l : List SourceAddress × List (List ℕ)). l.1) c.self.view_is ∙ lists.names in
    let found = names_found sender sources lists.held sources_are lists.ascending heard names after first count lists.suffices
    names_are whole c.partition_point-count.ensures.bound
    (IsPartitionPoint-from_clause (λ source. is_lt (address_cmp source sender)) sources first c.partition_point-first.ensures.partitioned
    (parted_below sender sources lists.held sources_are lists.ascending) (λ a r q k. search rules))
    (IsPartitionPoint-from_clause (λ source. is_le (address_cmp source sender)) after count c.partition_point-count.ensures.partitioned
    (parted_after sender sources lists.held sources_are lists.ascending after first whole) (λ a r q k. search rules)) in
    let same : count ≡ first + count - first = omega arith in
    subst (λ n. AreNames sender heard (take n (drop first names))) same found
