use Rattle.std.proofs.Common.{List, ℕ, ◌≡◌, ◌∙◌, ◌++◌, ap, map, subst, sym}
use Rattle.std.specs.List.{filter_map}
use Rattle.mdns_cache.specs.LentRecords.{last_lent}
use Rattle.mdns_browse.specs.{Forms.{listed_text}, Given.{given_lent}, Report.{instances_about}, Services.{AreAscending, instance_row_in}}
use Rattle.mdns_browse.proofs.RowLemmas.{ascending_lasts}
use Rattle.mdns_browse.proofs.instance_forms.listed.Goals as goal

pub returns : goal.returns
returns c heard stands =
    let records = c.walk_live.result in
    let are = c.walk_live.ensures heard stands in
    let ascending = ascending_lasts heard c.args.now.nanos records are in
    let rows = ap (map last_lent) c.as_slice.ensures.value ∙ c.in_ok-gathered.ensures.rows in
    let shown : filter_map (instance_row_in (map last_lent c.as_slice.result.now)) (map given_lent c.as_slice-2.result.now)
    ≡ instances_about c.args.about.now records = cc (c.in_ok-gathered.ensures.shown ascending) in
    record {
      rows = records;
      are = are;
      is =
          c.in_ok-push_instances.ensures (subst AreAscending (sym rows) ascending)
          ∙ ap (λ (none : List ℕ). none ++ listed_text c.args.form (filter_map (instance_row_in (map last_lent c.as_slice.result.now))
          (map given_lent c.as_slice-2.result.now))) c.new-to.ensures
          ∙ ap (listed_text c.args.form) shown;
    }
