use Rattle.std.proofs.{Common.{◌∙◌, ap, sym, subst, map}, lemmas.Result.{IfOk-weaker}}
use Rattle.mdns_cache.specs.LentRecords.{last_lent}
use Rattle.mdns_browse.specs.{Given.{given_lent}, Services.{AreAscending, lasts_in}}
use Rattle.mdns_browse.proofs.{InstanceLemmas.{instances-shown, only, shown_in}, RowLemmas.{ascending_lasts}}
use Rattle.mdns_browse.proofs.services.instances.Goals as goal

pub returns : goal.returns
returns c =
    let records = c.walk_live.result in
    let rows = ap (map last_lent) c.as_slice.ensures.value ∙ c.in_ok-gathered.ensures.rows in
    let given = ap (map given_lent) c.as_slice-2.ensures.value ∙ c.in_ok-gathered.ensures.given in
    IfOk-weaker c.instances_of.result _ _
    (λ instances found heard stands.
    let are = c.walk_live.ensures heard stands in
    record {
      rows = records;
      are = are;
      is =
          found (subst AreAscending (sym rows) (ascending_lasts heard c.args.now.nanos records are))
          ∙ ap (λ all. only (shown_in all (map given_lent c.as_slice-2.result.now))) rows
          ∙ ap (λ all. only (shown_in (lasts_in records) all)) given
          ∙ instances-shown (lasts_in records) records;
    })
    c.instances_of.ensures
