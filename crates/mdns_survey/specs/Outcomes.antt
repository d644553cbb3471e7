-- The outcomes of captures: which hearings their packets carry, and how the packets are counted.
use Rattle.std.specs.{Prelude.{◌≡◌, ◌⊎◌, ℕ, Bool, true, false, List, [], ◌∷◌, length, count_by}, List.{flat_map}}
use Rattle.mdns_capture.specs.{declared.moment.Moment.{Moment}, declared.savefile.Ending.{Ending}, Savefile.{PacketAt, CaptureReads}}
use Rattle.mdns_capture.specs.Frame.{FrameCarries}
use Rattle.mdns_message.specs.{declared.hearing.Hearing.{Hearing}, Message.{IsShort, IsQuery, IsIgnored, HasHeader, MessageReads}}
use Rattle.mdns_survey.specs.declared.summary.{Summary.{Summary}, Tally.{Tally}}

-- the outcome of a packet
pub data Outcome : Type 0 where
  skipped : Outcome
  refused : Outcome
  heard : List Hearing → Outcome

-- A packet of that moment with that frame is skipped where the frame carries nothing, or a message that isn't
-- a response or is to be ignored (RFC 6762, section 18); refused where it carries a message that is too short for a
-- header, or a response that doesn't read; else its message's hearings are heard.
abbrev pub ComesTo : Moment → List ℕ → Outcome → Type 0
ComesTo moment frame skipped =
    ((payload : List ℕ) → FrameCarries frame payload → ⊥)
    ⊎ ((payload : List ℕ) × FrameCarries frame payload × (IsQuery payload ⊎ IsIgnored payload))
ComesTo moment frame refused =
    (payload : List ℕ) × FrameCarries frame payload
    × (IsShort payload ⊎ (HasHeader payload × ((hearings : List Hearing) → MessageReads moment payload hearings → ⊥)))
ComesTo moment frame (heard hearings) =
    (payload : List ℕ) × FrameCarries frame payload × MessageReads moment payload hearings

-- a payload of that moment reads as the outcome's hearings, where the outcome has some
abbrev pub ReadsTo : Moment → List ℕ → Outcome → Type 0
ReadsTo moment payload (heard hearings) = MessageReads moment payload hearings
ReadsTo moment payload _ = Unit {0}

-- packets come to these outcomes, one each, in order
abbrev pub AllCome : List PacketAt → List Outcome → Type 0
AllCome [] [] = Unit {0}
AllCome (packet ∷ packets) (outcome ∷ outcomes) = ComesTo packet.moment packet.frame outcome × AllCome packets outcomes
AllCome _ _ = ⊥

-- the bytes are a capture whose packets come to these outcomes, with this ending
pub record CaptureTells (bytes : List ℕ) (outcomes : List Outcome) (ending : Ending) : Type 0 where
  pub packets : List PacketAt
  pub reads : CaptureReads bytes packets ending
  pub come : AllCome packets outcomes

-- the hearings of an outcome
abbrev pub hearings_of_outcome : Outcome → List Hearing
hearings_of_outcome (heard hearings) = hearings
hearings_of_outcome _ = []

-- the hearings of outcomes, as often as they come
abbrev pub hearings_in : List Outcome → List Hearing
hearings_in outcomes = flat_map hearings_of_outcome outcomes

abbrev pub is_skipped : Outcome → Bool
is_skipped skipped = true
is_skipped _ = false

abbrev pub is_refused : Outcome → Bool
is_refused refused = true
is_refused _ = false

abbrev pub is_heard : Outcome → Bool
is_heard (heard hearings) = true
is_heard _ = false

-- the tally counts the outcomes
pub record Counts (outcomes : List Outcome) (tally : Tally) : Type 0 where
  pub packets : tally.packets ≡ length outcomes
  pub skipped : tally.skipped ≡ count_by is_skipped outcomes
  pub refused : tally.refused ≡ count_by is_refused outcomes
  pub messages : tally.messages ≡ count_by is_heard outcomes
  pub hearings : tally.hearings ≡ length (hearings_in outcomes)

-- each capture has its packets and its ending, and its packets come to its outcomes, which its tally counts
abbrev pub AllRead : List (List ℕ) → List (List PacketAt) → List (List Outcome) → List Summary → Type 0
AllRead [] [] [] [] = Unit {0}
AllRead (bytes ∷ captures) (packets ∷ more) (outcomes ∷ rest) (summary ∷ summaries) =
    CaptureReads bytes packets summary.ending × AllCome packets outcomes × Counts outcomes summary.tally
    × AllRead captures more rest summaries
AllRead _ _ _ _ = ⊥
