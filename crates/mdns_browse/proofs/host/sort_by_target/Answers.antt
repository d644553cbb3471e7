use Rattle.std.proofs.{Common.{rules}, lemmas.List.Sorted.{answers_always, ranks_by}}
use Rattle.std.specs.{Cmp.Lexicographic.{nat_list_cmp_total}, Ordering.{is_lt}}
use Rattle.dns_name.specs.Name.{folded}
use Rattle.mdns_browse.specs.{Hosts.{target_cmp}, declared.host.HostedInstance.{HostedInstance}}
use Rattle.mdns_browse.proofs.host.sort_by_target.Goals as goal

pub returns-clause-sorted : goal.returns-clause-sorted
returns-clause-sorted c =
    c.in_ok-sort_by.ensures.sorted (λ one other. is_lt (target_cmp one other))
    (ranks_by nat_list_cmp_total (λ (it : HostedInstance). folded it.target.now)) (answers_always _ _ _ (λ f a r f' k. search rules))

pub returns-clause-stable : goal.returns-clause-stable
returns-clause-stable c =
    c.sort_by.ensures.stable (λ one other. is_lt (target_cmp one other))
    (ranks_by nat_list_cmp_total (λ (it : HostedInstance). folded it.target.now)) (answers_always _ _ _ (λ f a r f' k. search rules))
