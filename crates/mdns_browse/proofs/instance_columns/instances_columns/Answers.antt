use Rattle.std.proofs.{Common.{◌≡◌, sym, ◌∙◌, ap, subst, map, max, length, [], ◌++◌}, lemmas.List.{length-map}}
use Rattle.std.specs.String.{string_bytes}
use Rattle.mdns_capture.specs.declared.moment.Moment.{Moment}
use Rattle.mdns_cache.specs.LentRecords.{last_lent, live_record_lent}
use Rattle.mdns_browse.specs.{Columns.{instances_pretty, rows_by_type, time_left_text, widest}, Given.{given_lent}}
use Rattle.mdns_browse.specs.{Report.{instances_about, records_about}, Services.{AreAscending, others_in}}
use Rattle.mdns_browse.proofs.{InstanceColumnLemmas.{columns_by_parts, given_left}, InstanceLemmas.{shown_in}}
use Rattle.mdns_browse.proofs.RowLemmas.{ascending_lasts, one_records}
use Rattle.mdns_browse.proofs.instance_columns.instances_columns.Goals as goal

pub returns : goal.returns
returns c heard stands =
    let now = c.args.now.nanos in
    let about = c.args.about.now in
    let records = c.walk_live.result in
    let are = c.walk_live.ensures heard stands in
    let ascending = ascending_lasts heard now records are in
    let rows = ap (map last_lent) c.as_slice-2.ensures.value ∙ c.in_ok-gathered.ensures.rows in
    let listed = c.as_slice-listed.result.now in
    let given = ap (map given_lent) c.as_slice-listed.ensures.value ∙ c.in_ok-gathered.ensures.given ascending in
    let others = c.as_slice-3.result.now in
    let same = c.as_slice.ensures.value ∙ sym c.as_slice-3.ensures.value in
    let found = ap (map live_record_lent) c.as_slice-3.ensures.value ∙ c.in_ok-others.ensures
    ∙ ap (λ rows. records_about about (others_in rows))
    (one_records heard now c.walk_live-2.result records (c.walk_live-2.ensures heard stands) are) in
    let shown : shown_in (map last_lent c.as_slice-2.result.now) (map given_lent listed) ≡ instances_about about records
    = cc (c.in_ok-gathered.ensures.shown ascending) in
    let pushed = c.in_ok-push_instances.ensures (subst AreAscending (sym rows) ascending) in
    let begun = string_bytes c.push_heading.new.to in
    record {
      rows = records;
      are = are;
      is =
          columns_by_parts now _ (length listed) (map given_lent listed) (instances_about about records) (map live_record_lent others)
          (string_bytes c.new-sheet.result.text) begun _ _ given c.new-sheet.ensures.text (sym (length-map listed given_lent))
          (c.in_ok-width.ensures
          ∙ ap
          (λ rows. max (widest (map (given_left now) (map given_lent listed))) (widest (map (time_left_text now) (map live_record_lent rows))))
          same)
          c.in_ok-push_heading.ensures
          (pushed.written
          ∙ ap (λ (at : Moment). begun ++ rows_by_type c.new-sheet.result.width at.nanos [] (shown_in (map last_lent c.as_slice-2.result.now)
          (map given_lent listed))) c.new-sheet.ensures.now
          ∙ ap (λ width. begun ++ rows_by_type width now [] (shown_in (map last_lent c.as_slice-2.result.now) (map given_lent listed)))
          c.new-sheet.ensures.width
          ∙ ap (λ rows. begun ++ rows_by_type c.in_ok-width.width now [] rows) shown)
          c.in_ok-push_others.ensures
          ∙ ap (instances_pretty now (instances_about about records)) found;
    }
