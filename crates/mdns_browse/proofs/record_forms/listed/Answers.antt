use Rattle.std.proofs.Common.{codes}
use Rattle.mdns_cache.specs.LentRecords.{live_record_lent}
use Rattle.mdns_browse.specs.{Csv.{records_header}, Forms.{head, record_texts}}
use Rattle.mdns_browse.proofs.ColumnLemmas.{listed_by_parts}
use Rattle.mdns_browse.proofs.record_forms.listed.Goals as goal

pub returns : goal.returns
returns c heard stands = record {
  rows = c.walk_live.result;
  are = c.walk_live.ensures heard stands;
  is =
      listed_by_parts live_record_lent c.as_slice-listed.ensures.value c.in_ok-rows.ensures
      (λ count. head c.args.form count (codes "record") (codes "records") records_header c.args.now.nanos)
      (record_texts c.args.form c.args.now.nanos) c.in_ok-to.ensures c.in_ok-push_records.ensures;
}
