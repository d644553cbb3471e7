-- The fields of rows of listeners, of pairs of listeners and of senders, in the order in which each form writes them.
use Rattle.std.specs.Prelude.{ℕ, ℤ, List, [], ◌∷◌, ◌++◌, Option, codes, option_map}
use Rattle.mdns_browse.specs.declared.report.{Form.{Form}, Form.TheVariants.{Csv, Json, Lines, Pretty}}
use Rattle.mdns_capture.specs.declared.moment.Moment.{Moment}
use Rattle.mdns_survey.specs.declared.reading.Span.{Span}
use Rattle.mdns_listeners.specs.declared.fields.{Field.{Field as LentField}, Kind.{Kind}, Kind.TheVariants.{Listeners, Pairs, Senders}}
use Rattle.mdns_listeners.specs.declared.{numbers.ListenerRow.{ListenerRow}, pairs.PairRow.{PairRow}, pairs.Quartiles.{Quartiles}}
use Rattle.mdns_listeners.specs.declared.senders.SenderRow.{SenderRow}
use Rattle.mdns_listeners.specs.Values.{Value, value_lent, Words, Count, Time, Ahead, Address, Names, Clock}

-- a value, the words before it in a line, and its name in an object
pub record Field : Type 0 where
  pub words : List ℕ
  pub name : List ℕ
  pub value : Value

abbrev pub labelled : List ℕ → List ℕ → Value → Field
labelled words name value = record { words = words; name = name; value = value }

-- the field that is lent
abbrev pub field_lent : LentField → Field
field_lent lent = labelled lent.words.now lent.name.now (value_lent lent.value)

-- a value of a table alone
abbrev pub cell : Value → Field
cell value = labelled [] [] value

-- the earliest and the latest moment of a span
abbrev pub first_of : Option Span → Option Moment
first_of span = option_map (λ (s : Span). s.first) span

abbrev pub last_of : Option Span → Option Moment
last_of span = option_map (λ (s : Span). s.last) span

-- the median and the quartiles
abbrev pub middle_of : Option Quartiles → Option ℤ
middle_of quartiles = option_map (λ (q : Quartiles). q.middle) quartiles

abbrev pub low_of : Option Quartiles → Option ℤ
low_of quartiles = option_map (λ (q : Quartiles). q.low) quartiles

abbrev pub high_of : Option Quartiles → Option ℤ
high_of quartiles = option_map (λ (q : Quartiles). q.high) quartiles

-- ---- rows, of listeners whose names are written so

abbrev pub listener_fields : List ℕ → ListenerRow → List Field
listener_fields file row =
    labelled [] (codes "file") (Words file) ∷ labelled (codes " heard ") (codes "heard") (Count row.heard)
    ∷ labelled (codes " alone ") (codes "alone") (Count row.alone) ∷ labelled (codes " missed ") (codes "missed") (Count row.missed)
    ∷ labelled (codes " from ") (codes "from") (Time (first_of row.span)) ∷ labelled (codes " until ") (codes "until") (Time (last_of row.span))
    ∷ []

-- of two listeners; for people what is said of the second one's clock
abbrev pub pair_fields : List ℕ → List ℕ → PairRow → List Field
pair_fields file other row =
    labelled [] (codes "file") (Words file) ∷ labelled (codes " ") (codes "other") (Words other)
    ∷ labelled (codes " common ") (codes "common") (Count row.common)
    ∷ labelled (codes " ahead ") (codes "ahead") (Ahead (middle_of row.quartiles))
    ∷ labelled (codes " from ") (codes "low") (Ahead (low_of row.quartiles)) ∷ labelled (codes " to ") (codes "high") (Ahead (high_of row.quartiles))
    ∷ labelled (codes " by ") (codes "by") (Count row.by) ∷ []

abbrev pub pair_cells : List ℕ → List ℕ → PairRow → List Field
pair_cells file other row = cell (Words file) ∷ cell (Words other) ∷ cell (Count row.common) ∷ cell (Clock other row) ∷ []

abbrev pub pair_row_in : Form → List ℕ → List ℕ → PairRow → List Field
pair_row_in Lines file other row = pair_fields file other row
pair_row_in Json file other row = pair_fields file other row
pair_row_in Pretty file other row = pair_cells file other row
pair_row_in Csv file other row = pair_fields file other row

-- of a sender: its address, what a listener heard of it, and the names that it goes by
abbrev pub source_field : SenderRow → Field
source_field row = labelled [] (codes "source") (Address row.source)

abbrev pub heard_fields : List ℕ → SenderRow → List Field
heard_fields file row =
    labelled (codes " ") (codes "file") (Words file) ∷ labelled (codes " heard ") (codes "heard") (Count row.heard)
    ∷ labelled (codes " missed ") (codes "missed") (Count row.missed) ∷ labelled (codes " from ") (codes "from") (Time (first_of row.span))
    ∷ labelled (codes " until ") (codes "until") (Time (last_of row.span)) ∷ []

abbrev pub names_field : List (List ℕ) → Field
names_field names = labelled [] (codes "names") (Names names)

-- the names in a table: no cell where there are no names
abbrev pub names_cells : List (List ℕ) → List Field
names_cells [] = []
names_cells (name ∷ names) = names_field (name ∷ names) ∷ []

abbrev pub sender_row_in : Form → List ℕ → SenderRow → List (List ℕ) → List Field
sender_row_in Lines file row names = source_field row ∷ heard_fields file row ++ names_field names ∷ []
sender_row_in Json file row names = source_field row ∷ names_field names ∷ heard_fields file row
sender_row_in Csv file row names = source_field row ∷ heard_fields file row ++ names_field names ∷ []
sender_row_in Pretty file row names = source_field row ∷ heard_fields file row ++ names_cells names

-- how many fields a sender has in a table
abbrev pub sender_count : List (List ℕ) → ℕ
sender_count [] = 6
sender_count (name ∷ names) = 7

-- ---- the heads of the columns

abbrev pub head : List ℕ → Field
head word = cell (Words word)

abbrev pub heads_of : Kind → List Field
heads_of Listeners =
    head (codes "LISTENER") ∷ head (codes "HEARD") ∷ head (codes "ALONE") ∷ head (codes "MISSED") ∷ head (codes "FROM")
    ∷ head (codes "UNTIL") ∷ []
heads_of Pairs = head (codes "LISTENER") ∷ head (codes "OTHER") ∷ head (codes "COMMON") ∷ head (codes "THE OTHER'S CLOCK") ∷ []
heads_of Senders =
    head (codes "SENDER") ∷ head (codes "LISTENER") ∷ head (codes "HEARD") ∷ head (codes "MISSED") ∷ head (codes "FROM")
    ∷ head (codes "UNTIL") ∷ head (codes "NAMES") ∷ []
