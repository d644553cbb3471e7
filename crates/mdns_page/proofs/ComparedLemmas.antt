-- Captures compare in one way, and what a collector gathers of them.
use Rattle.std.proofs.Common.{◌≡◌, ◌∙◌, ℕ, suc, subst, sym, inl, inr, List, [], ◌∷◌, ◌++◌, Option, None, Some, arith}
use Rattle.mdns_capture.specs.Savefile.{PacketAt}
use Rattle.mdns_capture.proofs.SourceLemmas.{source_is_there}
use Rattle.mdns_survey.proofs.OutcomeLemmas.{OnePayload}
use Rattle.mdns_survey.specs.Outcomes.{Outcome, heard, refused, skipped}
use Rattle.mdns_listeners.specs.{HeardMessage.{AreHeardIn, HeardRow, Told}, Listeners.{CapturesTell, Gathers, IsHeardBy}}
use Rattle.mdns_listeners.specs.{Listeners.{TellAll, Tells}, Numbers.{listener_rows, FileSpans}, declared.pairs.PairRow.{PairRow}}
use Rattle.mdns_listeners.specs.{Together.{pairs_together}, declared.listeners.MessageCollector.{MessageCollector}, Groups.{Grouped}}
use Rattle.mdns_listeners.specs.declared.{listeners.HeardByListeners.{HeardByListeners}, numbers.ListenerRow.{ListenerRow}}
use Rattle.mdns_page.specs.{Captures.{Comparison}, Collected.{AreCompared, AreGathered, Compares, GathersIf, GoesOn}}
use Rattle.std.specs.{declared.result.Result.{Result}, declared.result.Result.TheVariants.{Ok, Err}, Prelude.{IfOk}}

-- ---- one comparison

abbrev pub OneListOfRows : Type 0
OneListOfRows = (all : List Told) (rows others : List HeardRow) → AreHeardIn all rows → AreHeardIn all others → rows ≡ others

module _ (payload : OnePayload) where
  one-tells : (listener : ℕ) (packet : PacketAt) (outcome : Outcome) (told other : List Told) → Tells listener packet outcome told
      → Tells listener packet outcome other → told ≡ other
  one-tells listener packet skipped told other tells too = tells ∙ sym too
  one-tells listener packet refused told other tells too = tells ∙ sym too
  one-tells listener packet (heard []) told other tells too = tells ∙ sym too
  one-tells listener packet (heard (hearing ∷ hearings)) told other (source, (bytes, sent, carries, is))
      (origin, (again, sent_too, carries_too, is_too)) =
      let one_source = sym (source_is_there packet.frame source sent) ∙ source_is_there packet.frame origin sent_too in
      let one_payload = payload packet.frame bytes again carries carries_too in
      grind arith

  one-tell_all : (listener : ℕ) (packets : List PacketAt) (outcomes : List Outcome) (told other : List Told)
      → TellAll listener packets outcomes told → TellAll listener packets outcomes other → told ≡ other
  one-tell_all listener [] [] told other tell too = tell ∙ sym too
  one-tell_all listener [] (o ∷ os) told other tell too = absurd tell
  one-tell_all listener (p ∷ ps) [] told other tell too = absurd tell
  one-tell_all listener (p ∷ ps) (o ∷ os) told other (one, (rest, is, here, after)) (first, (others, is_too, here_too, after_too)) =
      grind (arith, one-tells, one-tell_all listener ps os rest others after after_too)

  one-captures_tell : (of : List ℕ) (place : ℕ) (packets : List (List PacketAt)) (outcomes : List (List Outcome))
      (told other : List Told) → CapturesTell of place packets outcomes told → CapturesTell of place packets outcomes other
      → told ≡ other
  one-captures_tell of place [] [] told other tell too = tell ∙ sym too
  one-captures_tell of place [] (o ∷ os) told other tell too = absurd tell
  one-captures_tell of place (p ∷ ps) [] told other tell too = absurd tell
  one-captures_tell of place (p ∷ ps) (o ∷ os) told other (one, (rest, is, here, after))
      (first, (others, is_too, here_too, after_too)) =
      grind (arith, one-tell_all, one-captures_tell of (suc place) ps os rest others after after_too)

  pub one-comparison : OneListOfRows → (groups : Grouped) (packets : List (List PacketAt)) (outcomes : List (List Outcome))
      (a b : Comparison) → Compares groups packets outcomes a → Compares groups packets outcomes b → a ≡ b
  one-comparison one groups packets outcomes a b (inl none) (inl too) = grind arith
  one-comparison one groups packets outcomes a b (inl (off, listeners, pairs)) (inr (on, some)) = absurd (cc)
  one-comparison one groups packets outcomes a b (inr (on, some)) (inl (off, listeners, pairs)) = absurd (cc)
  one-comparison one groups packets outcomes a b (inr some) (inr too) =
      let told = one-captures_tell groups.by_file 0 packets outcomes some.1.are_rows.told too.1.are_rows.told some.1.are_rows.tell
      too.1.are_rows.tell in
      let rows = one too.1.are_rows.told some.1.rows too.1.rows
      (subst (λ (all : List Told). AreHeardIn all some.1.rows) told some.1.are_rows.are_heard) too.1.are_rows.are_heard in
      grind arith

-- the rows of what listeners heard
pub compared-by : (groups : Grouped) (packets : List (List PacketAt)) (outcomes : List (List Outcome)) (heard_by : HeardByListeners)
    (messages : List HeardRow) (spans : List FileSpans) (listeners : List ListenerRow) (pairs : List PairRow)
    → IsHeardBy groups packets outcomes heard_by → messages ≡ heard_by.messages.items → spans ≡ heard_by.spans.items
    → listeners ≡ listener_rows messages spans → pairs ≡ pairs_together messages spans
    → AreCompared groups packets outcomes (record { listeners = listeners; pairs = pairs })
compared-by groups packets outcomes heard_by messages spans listeners pairs are same_messages same_spans listed paired = grind arith

-- ---- while captures are read

-- two facts of a value that was returned
pub ok-and : {T E : Type 0} (r : Result T E) (P Q R : T → Type 0) → ((x : T) → P x → Q x → R x) → IfOk r P → IfOk r Q → IfOk r R
ok-and (Ok x) P Q R both one other = both x one other
ok-and (Err fault) P Q R both one other = tt

pub gathers-nothing : (groups : Grouped) (messages : Option MessageCollector) → AreGathered groups messages [] []
    → GathersIf messages messages [] []
gathers-nothing groups None gathered = tt
gathers-nothing groups (Some messages) gathered = grind arith

pub gathered-now : (groups : Grouped) (begun now : Option MessageCollector) (packets : List (List PacketAt))
    (outcomes : List (List Outcome)) → AreGathered groups begun [] [] → GathersIf begun now packets outcomes
    → AreGathered groups now packets outcomes
gathered-now groups None None packets outcomes begins gathers = begins
gathered-now groups None (Some now) packets outcomes begins gathers = absurd gathers
gathered-now groups (Some begun) None packets outcomes begins gathers = absurd gathers
gathered-now groups (Some begun) (Some now) packets outcomes begins gathers = grind arith

-- of a capture more, where none are gathered
pub gathers-no_more : (begun old new : Option MessageCollector) (packets : List (List PacketAt)) (outcomes : List (List Outcome))
    (next : List PacketAt) (come : List Outcome) → old ≡ None → new ≡ None → GathersIf begun old packets outcomes
    → GathersIf begun new (packets ++ next ∷ []) (outcomes ++ come ∷ [])
gathers-no_more None old new packets outcomes next come was is gathers = grind arith
gathers-no_more (Some begun) old new packets outcomes next come was is gathers = grind arith

-- and where they are
pub gathers-more : (begun old new : Option MessageCollector) (was heard_by now : MessageCollector) (packets : List (List PacketAt))
    (outcomes : List (List Outcome)) (next : List PacketAt) (come : List Outcome) → old ≡ Some was → new ≡ Some now
    → Gathers was heard_by next come → GoesOn heard_by now → GathersIf begun old packets outcomes
    → GathersIf begun new (packets ++ next ∷ []) (outcomes ++ come ∷ [])
gathers-more None old new was heard_by now packets outcomes next come before after took goes_on gathers = grind arith
gathers-more (Some begun) old new was heard_by now packets outcomes next come before after took goes_on gathers = grind arith

-- WHAT FUNCTIONS ARE PROVED BY

pub ruleset for_compared_by = (compared-by)

pub ruleset for_collector = (gathered-now, gathers-nothing, ok-and)
