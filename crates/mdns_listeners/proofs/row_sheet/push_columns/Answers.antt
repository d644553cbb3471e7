use Rattle.std.proofs.Common.{◌∙◌, ℕ, List, [], ◌∷◌, ◌++◌, ap, append_assoc, arith, get_or, map}
use Rattle.mdns_listeners.specs.{Fields.{field_lent}, RowSheet.{cells_of, columns_text}, Table.{cells_from}}
use Rattle.mdns_listeners.proofs.TableLemmas.{columns_end, columns_more}
use Rattle.mdns_listeners.proofs.row_sheet.push_columns.Goals as goal

pub loop-column-preserved : goal.loop-column-preserved
loop-column-preserved c =
    columns_more (λ k. get_or c.args.widths.now k 0) c.args.fields.now c.loop-column.column c.index-fields-column.result _ _ _
    (omega arith) c.index-fields-column.is c.in_ok-push_column.ensures c.loop-column.invariant

pub returns : goal.returns
unfolding columns_text lib.Utf8.encode
returns c =
    let width : ℕ → ℕ = λ k. get_or c.args.widths.now k 0 in
    c.in_ok-push.ensures.bytes
    ∙ ap (λ (text : List ℕ). text ++ 10 ∷ []) (columns_end width c.args.fields.now c.loop-column.column _ _
    (omega (arith, c.loop-column-test.false, c.loop-column.auto.column-end)) c.loop-column.invariant)
    ∙ append_assoc _ (cells_from width 0 (cells_of (map field_lent c.args.fields.now))) (10 ∷ [])
