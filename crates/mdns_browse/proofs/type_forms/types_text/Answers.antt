use Rattle.std.proofs.Common.{List, ℕ, ◌∙◌, ◌++◌, ap, codes, length}
use Rattle.std.specs.List.{flat_map}
use Rattle.mdns_browse.specs.{Csv.{types_header}, Forms.{gap, head, type_text}}
use Rattle.mdns_browse.proofs.ColumnLemmas.{listed_by_parts}
use Rattle.mdns_browse.proofs.type_forms.types_text.Goals as goal

pub returns : goal.returns
returns c heard stands = record {
  rows = c.walk_live.result;
  are = c.walk_live.ensures heard stands;
  is =
      listed_by_parts (λ name. name.now) c.as_slice-listed.ensures.value c.in_ok-names.ensures
      (λ count. head c.args.form count (codes "service type") (codes "service types") types_header c.args.now.nanos ++ gap c.args.form count)
      (flat_map (type_text c.args.form))
      (c.in_ok-push_gap.ensures ∙ ap (λ (text : List ℕ). text ++ gap c.args.form (length c.as_slice-listed.result.now)) c.in_ok-to.ensures)
      c.in_ok-push_types.ensures;
}
