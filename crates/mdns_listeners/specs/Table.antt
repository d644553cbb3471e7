-- Tables in readable columns: rows of cells, the first of which has the heads of the columns. Only a last cell may have more than
-- ASCII, so that the columns are straight whatever the widths of other characters.
use Rattle.std.specs.{Prelude.{ℕ, ◌+◌, List, [], ◌∷◌, ◌++◌, map, slice_index_or, codes}, List.{flat_map}}
use Rattle.mdns_browse.specs.Columns.{padded, widest}

-- a row's cell in a column; empty after its last cell
abbrev pub cell_in : ℕ → List (List ℕ) → List ℕ
cell_in column row = slice_index_or row column []

-- a column is as wide as its widest cell
abbrev pub column_width : List (List (List ℕ)) → ℕ → ℕ
column_width rows column = widest (map (cell_in column) rows)

-- the cells of a row from a column on: each but the last is padded to the width of its column, with two spaces between them
unfoldable pub cells_from : (ℕ → ℕ) → ℕ → List (List ℕ) → List ℕ
cells_from width column [] = []
cells_from width column (cell ∷ []) = cell
cells_from width column (cell ∷ next ∷ cells) =
    padded (width column) cell ++ codes "  " ++ cells_from width (column + 1) (next ∷ cells)

-- the lines of the rows
unfoldable pub table_text : List (List (List ℕ)) → List ℕ
table_text rows = flat_map (λ row. cells_from (column_width rows) 0 row ++ 10 ∷ []) rows
