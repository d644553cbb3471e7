-- Columns that grow row by row, and rows that are written in them.
use Rattle.std.proofs.Common.{◌≡◌, refl, ap, ℕ, zero, suc, ◌+◌, ◌-◌, ◌<◌, ◌≤◌, Bool, true, false, cond, leb, List, [], ◌∷◌, ◌++◌}
use Rattle.std.proofs.Common.{length, map, max, drop, get_or, append_assoc, append-nil, codes, arith}
use Rattle.std.proofs.lemmas.{Bool.{leb-false, leb-true}, List.{at_drop_more, drop_all, length-drop}, Bool.Decides.{nat_tests}}
use Rattle.std.specs.List.{flat_map, fold}
use Rattle.mdns_browse.specs.Columns.{padded, widest}
use Rattle.mdns_listeners.specs.{Fields.{Field, field_lent}, RowSheet.{cells_of, columns_text, widened, widened_at}}
use Rattle.mdns_listeners.specs.{Table.{cells_from, column_width, table_text}, Values.{cell_text, value_lent}}
use Rattle.mdns_listeners.specs.declared.fields.Field.{Field as LentField}

-- ---- one cell more

widened_at-suc : (width : ℕ) (widths : List ℕ) (column len : ℕ)
    → widened_at (width ∷ widths) (suc column) len ≡ width ∷ widened_at widths column len
widened_at-suc width widths column len = grind (arith, nat_tests)

pub widened_more : (widths : List ℕ) (cells : List (List ℕ)) (cell : List ℕ)
    → widened widths (cells ++ cell ∷ []) ≡ widened_at (widened widths cells) (length cells) (length cell)
widened_more [] [] cell = refl
widened_more (width ∷ widths) [] cell = grind (arith, nat_tests)
widened_more [] (first ∷ cells) cell = grind (arith, widened_more [] cells cell, widened_at-suc)
widened_more (width ∷ widths) (first ∷ cells) cell = grind (arith, widened_more widths cells cell, widened_at-suc)

abbrev lent_cells : List LentField → List (List ℕ)
lent_cells fields = cells_of (map field_lent fields)

abbrev lent_cell : LentField → List ℕ
lent_cell field = cell_text (value_lent field.value)

-- a cell, and those behind it
column_step : (width : ℕ → ℕ) (i count : ℕ) (x : LentField) (rest : List LentField) (b : Bool) → length rest ≡ count - (i + 1)
    → b ≡ leb count (i + 1)
    → cond b (lent_cell x) (padded (width i) (lent_cell x) ++ codes "  ") ++ cells_from width (i + 1) (lent_cells rest)
    ≡ cells_from width i (lent_cells (x ∷ rest))
unfolding cells_from
column_step width i count x [] true long is = append-nil (lent_cell x)
column_step width i count x [] false long is = grind (arith, leb-false)
column_step width i count x (y ∷ rest) true long is = grind (arith, leb-true)
column_step width i count x (y ∷ rest) false long is = refl

pub columns_more : (width : ℕ → ℕ) (fields : List LentField) (i : ℕ) (x : LentField) (old new total : List ℕ) → i < length fields
    → x ≡ get_or fields i x
    → new ≡ old ++ cond (leb (length fields) (i + 1)) (lent_cell x) (padded (width i) (lent_cell x) ++ codes "  ")
    → old ++ cells_from width i (lent_cells (drop i fields)) ≡ total
    → new ++ cells_from width (i + 1) (lent_cells (drop (i + 1) fields)) ≡ total
columns_more width fields i x old new total within is written left =
    let step = column_step width i (length fields) x (drop (i + 1) fields) (leb (length fields) (i + 1)) (length-drop (i + 1) fields) refl in
    let here = at_drop_more (λ (fs : List LentField). cells_from width i (lent_cells fs)) fields i x within in
    grind (arith, append_assoc, step, here)

pub columns_end : (width : ℕ → ℕ) (fields : List LentField) (i : ℕ) (old total : List ℕ) → length fields ≤ i
    → old ++ cells_from width i (lent_cells (drop i fields)) ≡ total → old ≡ total
unfolding cells_from
columns_end width fields i old total past left = grind (arith, nat_tests, append-nil, drop_all)

-- ---- the widths of all rows

get_or-widened : (widths : List ℕ) (cells : List (List ℕ)) (column : ℕ)
    → get_or (widened widths cells) column 0 ≡ max (get_or widths column 0) (length (get_or cells column []))
get_or-widened widths [] column = omega arith
get_or-widened [] (cell ∷ cells) zero = omega arith
get_or-widened [] (cell ∷ cells) (suc column) = get_or-widened [] cells column
get_or-widened (width ∷ widths) (cell ∷ cells) zero = refl
get_or-widened (width ∷ widths) (cell ∷ cells) (suc column) = get_or-widened widths cells column

get_or-fold : (widths : List ℕ) (rows : List (List (List ℕ))) (column : ℕ)
    → get_or (fold widened widths rows) column 0 ≡ max (get_or widths column 0) (column_width rows column)
unfolding widest
get_or-fold widths [] column = omega arith
get_or-fold widths (row ∷ rows) column = grind (arith, get_or-widened, get_or-fold (widened widths row) rows column)

width_is : (rows : List (List (List ℕ))) (column : ℕ) → get_or (fold widened [] rows) column 0 ≡ column_width rows column
width_is rows column = let all = get_or-fold [] rows column in omega (arith, all)

lines_of : (width : ℕ → ℕ) (rows : List (List Field))
    → flat_map (λ (fields : List Field). cells_from width 0 (cells_of fields) ++ 10 ∷ []) rows
    ≡ flat_map (λ (row : List (List ℕ)). cells_from width 0 row ++ 10 ∷ []) (map cells_of rows)
lines_of width [] = refl
lines_of width (fields ∷ rows) = ap (λ (text : List ℕ). (cells_from width 0 (cells_of fields) ++ 10 ∷ []) ++ text) (lines_of width rows)

-- rows in columns that are as wide as all of them need are a table
pub table_written : (rows : List (List Field))
    → flat_map (columns_text (fold widened [] (map cells_of rows))) rows ≡ table_text (map cells_of rows)
unfolding table_text columns_text
table_written rows = grind (arith, lines_of (λ column. get_or (fold widened [] (map cells_of rows)) column 0) rows, width_is)
