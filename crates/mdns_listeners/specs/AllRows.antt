-- All that is written of listeners, in a form.
use Rattle.std.specs.{Prelude.{ℕ, List, ◌∷◌, ◌++◌, map, string_bytes}, List.{enumerate_from, flat_map}}
use Rattle.mdns_browse.specs.{Columns.{unless_none}, declared.report.Form.{Form}, declared.report.Form.TheVariants.{Csv, Json, Lines, Pretty}}
use Rattle.mdns_message.specs.TextData.{string_text}
use Rattle.mdns_listeners.specs.declared.{all_rows.AllRows.{AllRows as LentRows}, fields.Kind.{Kind}, fields.Kind.TheVariants.{Listeners, Pairs}}
use Rattle.mdns_listeners.specs.declared.{fields.Kind.TheVariants.{Senders}, numbers.ListenerRow.{ListenerRow}, pairs.PairRow.{PairRow}}
use Rattle.mdns_listeners.specs.{Fields.{Field, heads_of, listener_fields, pair_row_in, sender_row_in}, NamedSender.{NamedSender}}
use Rattle.mdns_listeners.specs.{NamedSender.{listener_name_at, sender_lent}, RowSheet.{cells_of, line_text, object_text}}
use Rattle.mdns_listeners.specs.Table.{table_text}

-- the names of the listeners in their order, a row for each of them, and the rows of pairs and of senders
pub record AllRows : Type 0 where
  pub listener_names : List (List ℕ)
  pub listeners : List ListenerRow
  pub pairs : List PairRow
  pub senders : List NamedSender

-- the rows that are lent
abbrev pub all_rows_lent : LentRows → AllRows
all_rows_lent all =
    record {
      listener_names = map string_bytes all.listener_names.now;
      listeners = all.listeners.now;
      pairs = all.pairs.now;
      senders = map sender_lent all.senders.now;
    }

-- ---- rows, among listeners whose names are written so; a listener's row with its position

abbrev pub listener_at : List (List ℕ) → ℕ × ListenerRow → List Field
listener_at listener_names (listener, row) = listener_fields (listener_name_at listener_names listener) row

abbrev pub pair_at : Form → List (List ℕ) → PairRow → List Field
pair_at form listener_names row =
    pair_row_in form (listener_name_at listener_names row.one) (listener_name_at listener_names row.other) row

abbrev pub sender_at : Form → List (List ℕ) → NamedSender → List Field
sender_at form listener_names sender =
    sender_row_in form (listener_name_at listener_names sender.row.listener) sender.row sender.names

abbrev pub rows_of : Form → Kind → List (List ℕ) → AllRows → List (List Field)
rows_of form Listeners listener_names all = map (listener_at listener_names) (enumerate_from 0 all.listeners)
rows_of form Pairs listener_names all = map (pair_at form listener_names) all.pairs
rows_of form Senders listener_names all = map (sender_at form listener_names) all.senders

-- ---- texts

-- the rows of listeners, then those of pairs, then those of senders
abbrev pub all_rows : Form → List (List ℕ) → AllRows → List (List Field)
all_rows form listener_names all =
    rows_of form Listeners listener_names all ++ rows_of form Pairs listener_names all ++ rows_of form Senders listener_names all

-- a table of rows, with their heads
abbrev pub table_of : Kind → List (List ℕ) → AllRows → List ℕ
table_of kind listener_names all = table_text (map cells_of (heads_of kind ∷ rows_of Pretty kind listener_names all))

-- the tables with an empty line between; those of pairs and of senders only where there are any
unfoldable pub tables_text : List (List ℕ) → AllRows → List ℕ
tables_text listener_names all =
    table_of Listeners listener_names all ++ unless_none all.pairs (table_of Pairs listener_names all)
    ++ unless_none all.senders (table_of Senders listener_names all)

abbrev pub text_in : Form → List (List ℕ) → AllRows → List ℕ
text_in Lines listener_names all = flat_map line_text (all_rows Lines listener_names all)
text_in Json listener_names all = flat_map object_text (all_rows Json listener_names all)
text_in Pretty listener_names all = tables_text listener_names all
-- as comma-separated values they are lines of words
text_in Csv listener_names all = flat_map line_text (all_rows Csv listener_names all)

-- All that is written of listeners: of their names, each byte outside 0x21 to 0x7E as `\DDD` and a `\` as `\\`.
abbrev pub listeners_text : Form → AllRows → List ℕ
listeners_text form all = text_in form (map string_text all.listener_names) all
