-- Lost frames are counted.
use Rattle.std.proofs.Common.{◌≡◌, ◌∙◌, ℕ, ◌+◌, Bool, false, List, Option, Some, None, ap, arith, refl}
use Rattle.std.proofs.lemmas.List.Sums.{sum_by_push}
use Rattle.std.specs.Option.{option_map, option_map_or}
use mathlib.Core.Bool.{cond}
use Rattle.mdns_capture.specs.declared.{cause.Cause.{Cause}, frame.Skip.{Skip}}
use Rattle.mdns_capture.specs.{Frame.{FrameCarries, cause_of, skip_of, skip_of_cause}, Savefile.{PacketAt}}
use Rattle.mdns_survey.specs.declared.outcome.SkipReason.TheVariants as why
use Rattle.mdns_survey.specs.{Reasons.{loses_frame, row_of}, Reading.{CountsLoss}}

-- THE CHECK THAT A FRAME FAILS

abbrev pub NeverBoth : Type 0
NeverBoth = (frame payload : List ℕ) (skip : Skip) → FrameCarries frame payload → skip_of frame ≡ Some skip → ⊥

abbrev pub SkipsByCause : Type 0
SkipsByCause = (frame : List ℕ) → skip_of frame ≡ option_map skip_of_cause (cause_of frame)

no-cause-by : NeverBoth → SkipsByCause → (frame payload : List ℕ) (cause : Option Cause) → cause_of frame ≡ cause
    → FrameCarries frame payload → cause ≡ None
no-cause-by never by_cause frame payload None at carries = refl
no-cause-by never by_cause frame payload (Some cause) at carries =
    absurd (never frame payload (skip_of_cause cause) carries (by_cause frame ∙ ap (option_map skip_of_cause) at))

-- a frame that carries a payload fails no check
pub no-cause : NeverBoth → SkipsByCause → (frame payload : List ℕ) → FrameCarries frame payload → cause_of frame ≡ None
no-cause never by_cause frame payload carries = no-cause-by never by_cause frame payload (cause_of frame) refl carries

-- ONE PACKET MORE

pub counts-loss : (packet : PacketAt) (lost new_lost : ℕ) (lose : Bool) → loses_frame packet ≡ lose
    → new_lost ≡ lost + cond lose 1 0 → CountsLoss packet lost new_lost
counts-loss packet lost new_lost lose is_loss more packets counted = grind (arith, sum_by_push)

-- a packet whose frame carries a payload lost nothing
pub counts-no-loss : NeverBoth → SkipsByCause → (packet : PacketAt) (payload : List ℕ) (lost : ℕ)
    → FrameCarries packet.frame payload → CountsLoss packet lost lost
counts-no-loss never by_cause packet payload lost carries =
    counts-loss packet lost lost false
    (ap (λ (failed : Option Cause). option_map_or (λ c. (row_of (why.Frame c)).loses) failed false)
    (no-cause never by_cause packet.frame payload carries))
    (omega arith)
