use Rattle.std.proofs.Common.{List, map, string_bytes}
use Rattle.mdns_browse.specs.declared.report.Form.{Form}
use Rattle.mdns_listeners.specs.{AllRows.{all_rows_lent, rows_of}, Fields.{Field}, declared.fields.Kind.{Kind}}
use Rattle.mdns_listeners.specs.declared.fields.Kind.TheVariants.{Listeners, Pairs, Senders}
use Rattle.mdns_listeners.proofs.SheetLemmas.{all_written}
use Rattle.mdns_listeners.proofs.all_rows.take_all.Goals as goal

pub returns : goal.returns
returns c =
    let rows : Kind → Form → List (List Field) = λ kind form.
    rows_of form kind (map string_bytes c.args.names.now) (all_rows_lent c.args.all.now) in
    all_written (rows Listeners) (rows Pairs) (rows Senders) _ _ _ _ c.requires c.in_ok-take_rows.ensures c.in_ok-take_rows-2.ensures
    c.in_ok-take_rows-3.ensures
