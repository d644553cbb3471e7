use Rattle.std.proofs.Common.{◌∙◌, ap, map, subst, sym}
use Rattle.std.specs.List.{filter, flat_map}
use Rattle.mdns_cache.specs.LentRecords.{last_lent}
use Rattle.mdns_browse.specs.{Given.{given_lent}, Hosts.{is_on, services_at}, Services.{AreAscending, lasts_in}}
use Rattle.mdns_browse.proofs.{HostLemmas.{services_given, stable_on}, InstanceLemmas.{instances-shown}}
use Rattle.mdns_browse.proofs.host.host_source.Goals as goal

pub returns-clause-services : goal.returns-clause-services
returns-clause-services c ascending =
    let rows = ap (map last_lent) c.as_slice.ensures.value ∙ c.in_ok-gathered.ensures.rows in
    let given = ap (map given_lent) c.as_slice-2.ensures.value ∙ c.in_ok-gathered.ensures.given in
    let found = c.in_ok-services.ensures (subst AreAscending (sym rows) ascending)
    ∙ ap (λ all. services_given all (map given_lent c.as_slice-2.result.now)) rows
    ∙ ap (services_given (lasts_in c.args.walk)) given
    ∙ ap (flat_map services_at) (instances-shown (lasts_in c.args.walk) c.args.walk) in
    record {
      sorted = c.in_ok-sort_by_target.ensures.sorted;
      same = λ name. stable_on _ _ c.in_ok-sort_by_target.ensures.stable name ∙ ap (filter (is_on name.now)) found;
    }
