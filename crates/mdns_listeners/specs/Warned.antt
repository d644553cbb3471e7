-- Lives after warnings of listeners whose clocks don't agree.
use Rattle.std.specs.Prelude.{◌≡◌, ℕ, List}
use Rattle.mdns_capture.specs.Savefile.{PacketAt}
use Rattle.mdns_survey.specs.{declared.summary.Summary.{Summary}, Outcomes.{AllRead, Outcome}, Question.{Asked, asked_after}}
use Rattle.mdns_listeners.specs.{Groups.{Grouped}, HeardMessage.{HeardRow}, Listeners.{AreRowsOf, spans_by}, Together.{pairs_together}}
use Rattle.mdns_listeners.specs.Warnings.{warnings_text}

-- The text warns of the listeners that recorded together, by captures that have these packets, which came to these outcomes: all
-- packets count.
pub record WarnsOf (groups : Grouped) (packets : List (List PacketAt)) (outcomes : List (List Outcome)) (text : List ℕ) : Type 0 where
  pub rows : List HeardRow
  pub are_rows : AreRowsOf groups.by_file packets outcomes rows
  pub lines : text ≡ warnings_text groups.names (pairs_together rows (spans_by groups packets))

-- The text warns of the listeners of captures.
pub record AreWarnings (groups : Grouped) (captures : List (List ℕ)) (text : List ℕ) : Type 0 where
  pub packets : List (List PacketAt)
  pub outcomes : List (List Outcome)
  pub summaries : List Summary
  pub read : AllRead captures packets outcomes summaries
  pub warns : WarnsOf groups packets outcomes text

-- The same is asked for, after the warnings. When an allocation failed, none of the warnings were written, or all.
abbrev pub asked_warned : Grouped → Asked → Asked
asked_warned groups asked = record {
  Answers = λ captures summaries text. (warnings : List ℕ) × AreWarnings groups captures warnings
      × (asked_after warnings asked).Answers captures summaries text;
  as_of = asked.as_of;
  about = asked.about;
  at_once = asked.at_once;
  Stops = λ captures out. (warnings : List ℕ) × AreWarnings groups captures warnings
      × (asked_after warnings asked).Stops captures out;
}
