-- A sheet after rows.
use Rattle.std.proofs.Common.{arith, ◌≡◌, refl, sym, ap, ℕ, ◌+◌, ◌<◌, Bool, true, false, List, [], ◌∷◌}
use Rattle.std.proofs.{Common.{◌++◌, length, map, drop, get_or, append_assoc, append-nil}, lemmas.Bool.Decides.{nat_tests}}
use Rattle.std.proofs.lemmas.{Grind.{flat_map-append}, List.{at_drop_more, get_or_default}}
use Rattle.std.specs.List.{flat_map, fold}
use Rattle.mdns_browse.specs.declared.report.{Form.{Form}, Form.TheVariants.{Pretty}}
use Rattle.mdns_listeners.specs.{Fields.{Field}, RowSheet.{SheetNow, cells_of, row_text, taken, widened}, Table.{table_text}}
use Rattle.mdns_listeners.proofs.TableLemmas.{table_written}

-- a row taken of rows that are left
pub taken_more : {X : Type 0} (row : Form → X → List Field) (rows : Form → List X → List (List Field))
    → ((form : Form) (x : X) (xs : List X) → rows form (x ∷ xs) ≡ row form x ∷ rows form xs)
    → (xs : List X) (i : ℕ) (x : X) (old new total : SheetNow) → i < length xs → x ≡ get_or xs i x
    → new ≡ taken old (row old.form x) → fold taken old (rows old.form (drop i xs)) ≡ total
    → fold taken new (rows new.form (drop (i + 1) xs)) ≡ total
taken_more {X} row rows cons xs i x old new total within is written left =
    grind (arith, at_drop_more (λ (ys : List X). fold taken old (rows old.form ys)) xs i x within)

-- the same where the row is copied
pub taken_at : {X : Type 0} (row : Form → X → List Field) (rows : Form → List X → List (List Field))
    → ((form : Form) (x : X) (xs : List X) → rows form (x ∷ xs) ≡ row form x ∷ rows form xs)
    → (xs : List X) (i : ℕ) (d : X) (old new total : SheetNow) → i < length xs
    → new ≡ taken old (row old.form (get_or xs i d)) → fold taken old (rows old.form (drop i xs)) ≡ total
    → fold taken new (rows new.form (drop (i + 1) xs)) ≡ total
taken_at row rows cons xs i d old new total within written left =
    taken_more row rows cons xs i (get_or xs i d) old new total within (get_or_default xs i d (get_or xs i d) within) written left

abbrev sheet_at : Form → Bool → List ℕ → List ℕ → SheetNow
sheet_at form measures widths text = record { form = form; measures = measures; widths = widths; text = text }

measured : (form : Form) (widths text : List ℕ) (rows : List (List Field))
    → fold taken (sheet_at form true widths text) rows ≡ sheet_at form true (fold widened widths (map cells_of rows)) text
measured form widths text [] = refl
measured form widths text (row ∷ rows) = measured form (widened widths (cells_of row)) text rows

written : (form : Form) (widths text : List ℕ) (rows : List (List Field))
    → fold taken (sheet_at form false widths text) rows
    ≡ sheet_at form false widths (text ++ flat_map (row_text form widths) rows)
written form widths text [] = ap (sheet_at form false widths) (sym (append-nil text))
written form widths text (row ∷ rows) = grind (arith, append_assoc, written form widths (text ++ row_text form widths row) rows)

-- three runs of rows, one after another
pub all_written : (first second third : Form → List (List Field)) (old one two new : SheetNow) → old.measures ≡ false
    → one ≡ fold taken old (first old.form) → two ≡ fold taken one (second one.form) → new ≡ fold taken two (third two.form)
    → new.text ≡ old.text
    ++ flat_map (row_text old.form old.widths) (first old.form ++ second old.form ++ third old.form)
all_written first second third old one two new writes a b c = grind (arith, nat_tests, append_assoc, flat_map-append, written)

-- a table that was measured, and then written
pub table_taken : (rows : Form → List (List Field)) (old one two three new : SheetNow) → old.form ≡ Pretty
    → one ≡ sheet_at old.form true [] old.text → two ≡ fold taken one (rows one.form)
    → three ≡ sheet_at two.form false two.widths two.text → new ≡ fold taken three (rows three.form)
    → new ≡ sheet_at Pretty false (fold widened [] (map cells_of (rows Pretty))) (old.text ++ table_text (map cells_of (rows Pretty)))
table_taken rows old one two three new pretty a b c d =
    grind (arith, measured Pretty [] old.text (rows Pretty), written, table_written (rows Pretty))
