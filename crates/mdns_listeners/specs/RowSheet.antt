-- A sheet, and what it is after a row: each row is a line, an object or a row of a table, whose columns are measured first.
use Rattle.std.specs.Prelude.{ℕ, Bool, max, List, [], ◌∷◌, ◌++◌, length, map, if◌then◌else◌, nat_lt, slice_index, slice_set}
use Rattle.std.specs.List.{flat_map}
use Rattle.mdns_browse.specs.{Json.{json_member, json_object}, declared.report.Form.{Form}}
use Rattle.mdns_browse.specs.declared.report.Form.TheVariants.{Csv, Json, Lines, Pretty}
use Rattle.mdns_listeners.specs.{Fields.{Field}, Table.{cells_from}, Values.{cell_text, json_text, word_text}}

-- ---- rows

-- words and values one after another
unfoldable pub line_text : List Field → List ℕ
line_text fields = flat_map (λ (field : Field). field.words ++ word_text field.value) fields ++ 10 ∷ []

abbrev pub member_text : Field → List ℕ
member_text field = json_member field.name (json_text field.value)

-- an object, and the end of its line
unfoldable pub object_text : List Field → List ℕ
object_text fields = json_object (map member_text fields) ++ 10 ∷ []

abbrev pub cells_of : List Field → List (List ℕ)
cells_of fields = map (λ (field : Field). cell_text field.value) fields

-- a row of a table whose columns have these widths
unfoldable pub columns_text : List ℕ → List Field → List ℕ
columns_text widths fields = cells_from (slice_index widths) 0 (cells_of fields) ++ 10 ∷ []

-- a row in a form; as comma-separated values it is a line of words
abbrev pub row_text : Form → List ℕ → List Field → List ℕ
row_text Lines widths fields = line_text fields
row_text Json widths fields = object_text fields
row_text Pretty widths fields = columns_text widths fields
row_text Csv widths fields = line_text fields

-- ---- widths that grow row by row

-- the widths of the columns, each widened to that of a row's cell
abbrev pub widened : List ℕ → List (List ℕ) → List ℕ
widened widths [] = widths
widened [] (cell ∷ cells) = length cell ∷ widened [] cells
widened (width ∷ widths) (cell ∷ cells) = max width (length cell) ∷ widened widths cells

-- the width of one column widened, or a column added after the last one
abbrev pub widened_at : List ℕ → ℕ → ℕ → List ℕ
widened_at widths column width =
    if nat_lt column (length widths) then slice_set widths column (max (slice_index widths column) width)
    else widths ++ width ∷ []

-- ---- the sheet

-- the form of the rows, whether they are measured and not written, the widths of the columns, and the text so far
pub record SheetNow : Type 0 where
  pub form : Form
  pub measures : Bool
  pub widths : List ℕ
  pub text : List ℕ

-- the sheet after a row
abbrev pub taken : SheetNow → List Field → SheetNow
taken sheet fields = record {
  form = sheet.form;
  measures = sheet.measures;
  widths = if sheet.measures then widened sheet.widths (cells_of fields) else sheet.widths;
  text = if sheet.measures then sheet.text else sheet.text ++ row_text sheet.form sheet.widths fields;
}
