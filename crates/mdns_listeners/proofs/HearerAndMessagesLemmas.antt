-- A hearer that took nothing, and one that took one capture more.
use Rattle.std.proofs.Common.{List, [], ◌∷◌, ◌++◌, append-nil, subst, sym, arith}
use Rattle.mdns_capture.specs.Savefile.{PacketAt}
use Rattle.mdns_message.specs.declared.hearing.Hearing.{Hearing}
use Rattle.mdns_survey.proofs.ListenedLemmas.{all_hearings-more}
use Rattle.mdns_survey.specs.{Listen.{HearsPackets}, Outcomes.{Outcome}, Surveys.{all_hearings}}

module _ {H : Type 0} (Stands : H → H → List Hearing → Type 0) where
  pub hears-nothing : (hearer : H) → HearsPackets Stands hearer hearer [] []
  hears-nothing hearer = λ begun heard stands. subst (Stands begun hearer) (sym (append-nil heard)) stands

  pub hears-capture : (begun old new : H) (before : List (List Outcome)) (packets : List PacketAt) (outcomes : List Outcome)
      → HearsPackets Stands old new packets outcomes → Stands begun old (all_hearings before)
      → Stands begun new (all_hearings (before ++ outcomes ∷ []))
  hears-capture begun old new before packets outcomes hears stands = grind (arith, all_hearings-more)
