use Rattle.std.proofs.Common.{List, ◌∷◌, ap, map, string_bytes}
use Rattle.mdns_browse.specs.declared.report.Form.{Form}
use Rattle.mdns_listeners.specs.{AllRows.{all_rows_lent, rows_of}, Fields.{Field, heads_of}, RowSheet.{SheetNow}}
use Rattle.mdns_listeners.proofs.SheetLemmas.{table_taken}
use Rattle.mdns_listeners.proofs.all_rows.push_table.Goals as goal

pub returns : goal.returns
returns c =
    let rows : Form → List (List Field) = λ form.
    heads_of c.args.kind ∷ rows_of form c.args.kind (map string_bytes c.args.names.now) (all_rows_lent c.args.all.now) in
    let table = table_taken rows c.args.sheet.now c.measure.new.self c.take_table.new.sheet c.write.new.self c.take_table-2.new.sheet
    c.requires c.measure.ensures c.in_ok-take_table.ensures c.write.ensures c.in_ok-take_table-2.ensures in
    record { text = ap (λ (sheet : SheetNow). sheet.text) table; form = ap (λ (sheet : SheetNow). sheet.form) table }
