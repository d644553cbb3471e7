-- How listeners compare, and what a page collects of their files.
use Rattle.std.specs.Prelude.{◌≡◌, ◌⊎◌, ℕ, true, false, List, [], ◌∷◌, ◌++◌, length, Option, None, Some}
use Rattle.mdns_capture.specs.Savefile.{PacketAt}
use Rattle.mdns_survey.specs.Outcomes.{Outcome}
use Rattle.mdns_listeners.specs.{Groups.{Grouped}, HeardMessage.{HeardRow}, Listeners.{AreRowsOf, Gathered, Gathers, GathersAll, spans_by}}
use Rattle.mdns_listeners.specs.{Numbers.{listener_rows}, Together.{are_compared, pairs_together}}
use Rattle.mdns_listeners.specs.declared.listeners.MessageCollector.{MessageCollector}
use Rattle.mdns_page.specs.{ByListener.{HearsFiles}, Captures.{Comparison}, declared.collector.ComparisonRows.{ComparisonRows}}
use Rattle.mdns_page.specs.declared.collector.PageCollector.{PageCollector}

-- The rows are those of the messages of listeners, whose files' packets came to these outcomes: all packets count.
pub record AreCompared (groups : Grouped) (packets : List (List PacketAt)) (outcomes : List (List Outcome)) (comparison : Comparison)
    : Type 0 where
  pub rows : List HeardRow
  pub are_rows : AreRowsOf groups.by_file packets outcomes rows
  pub listeners : comparison.listeners ≡ listener_rows rows (spans_by groups packets)
  pub pairs : comparison.pairs ≡ pairs_together rows (spans_by groups packets)

-- the same of a few listeners; a single one compares with no other, and many aren't compared
abbrev pub Compares : Grouped → List (List PacketAt) → List (List Outcome) → Comparison → Type 0
Compares groups packets outcomes comparison =
    ((are_compared (length groups.names) ≡ false) × (comparison.listeners ≡ []) × (comparison.pairs ≡ []))
    ⊎ ((are_compared (length groups.names) ≡ true) × AreCompared groups packets outcomes comparison)

-- the rows, as they are lent
abbrev pub rows_lent : ComparisonRows → Comparison
rows_lent rows = record { listeners = rows.listeners.items; pairs = rows.pairs.items }

-- ---- while captures are read

-- the messages of listeners were gathered, if these are compared
abbrev pub AreGathered : Grouped → Option MessageCollector → List (List PacketAt) → List (List Outcome) → Type 0
AreGathered groups None packets outcomes = are_compared (length groups.names) ≡ false
AreGathered groups (Some messages) packets outcomes =
    (are_compared (length groups.names) ≡ true) × Gathered groups.by_file messages packets outcomes

-- those of these captures were, from a first state to a second
abbrev pub GathersIf : Option MessageCollector → Option MessageCollector → List (List PacketAt) → List (List Outcome) → Type 0
GathersIf None None packets outcomes = Unit {0}
GathersIf (Some begun) (Some now) packets outcomes = GathersAll begun now packets outcomes
GathersIf _ _ packets outcomes = ⊥

abbrev pub CollectsAll : PageCollector → PageCollector → List (List PacketAt) → List (List Outcome) → Type 0
CollectsAll begun now packets outcomes =
    (now.filter ≡ begun.filter) × HearsFiles begun.filter begun.lives now.lives packets outcomes
    × GathersIf begun.messages now.messages packets outcomes

-- a collector gathered the messages of one more capture, and goes on to the next
abbrev pub GoesOn : MessageCollector → MessageCollector → Type 0
GoesOn old new =
    (of : List ℕ) (begun : MessageCollector) (earlier : List (List PacketAt)) (before : List (List Outcome))
    (packets : List PacketAt) (outcomes : List Outcome) → Gathered of begun earlier before → Gathers begun old packets outcomes
    → Gathered of new (earlier ++ packets ∷ []) (before ++ outcomes ∷ [])

abbrev pub AddsMessages : MessageCollector → Option MessageCollector → Type 0
AddsMessages old new = (now : MessageCollector) × (new ≡ Some now) × GoesOn old now
