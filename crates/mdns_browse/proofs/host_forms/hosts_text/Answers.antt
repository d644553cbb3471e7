use Rattle.std.proofs.Common.{◌∙◌, ap, codes, map}
use Rattle.std.specs.List.{flat_map}
use Rattle.mdns_cache.specs.LentRecords.{last_lent}
use Rattle.mdns_browse.specs.{Forms.{head, host_text}, Hosts.{host_lent, hosts_header}}
use Rattle.mdns_browse.proofs.{ColumnLemmas.{listed_by_parts}, HostLemmas.{found_hosts}, RowLemmas.{ascending_lasts}}
use Rattle.mdns_browse.proofs.host_forms.hosts_text.Goals as goal

pub returns : goal.returns
returns c heard stands =
    let now = c.args.now.nanos in
    let records = c.walk_live.result in
    let are = c.walk_live.ensures heard stands in
    let ascending = ascending_lasts heard now records are in
    let source = c.in_ok-source.ensures in
    let rows = ap (map last_lent) c.as_slice.ensures.value ∙ source.rows in
    record {
      rows = records;
      are = are;
      is =
          listed_by_parts host_lent c.as_slice-listed.ensures.value
          (found_hosts c.args.about.now c.in_ok-hosts.ensures rows c.as_slice-2.ensures.value ascending (source.services ascending))
          (λ count. head c.args.form count (codes "host") (codes "hosts") hosts_header now) (flat_map (host_text c.args.form))
          c.in_ok-to.ensures c.in_ok-push_hosts.ensures;
    }
