-- Why a packet told nothing.
use Rattle.std.specs.Prelude.{◌≡◌, ℕ, List, [], Some}
use Rattle.mdns_capture.specs.{Frame.{FrameCarries, cause_of}, Source.{IsSourceOf}}
use Rattle.mdns_message.specs.{declared.fault.MessageFault.{MessageFault}, Message.{IsShort, IsQuery, IsIgnored}}
use Rattle.mdns_message.specs.FirstMessageFault.{MessageFails}
use Rattle.mdns_message.specs.declared.fault.MessageFault.TheVariants as fault
use Rattle.mdns_survey.specs.declared.outcome.{PacketOutcome.{PacketOutcome}, SkipReason.{SkipReason}}
use Rattle.mdns_survey.specs.declared.outcome.PacketOutcome.TheVariants as found
use Rattle.mdns_survey.specs.declared.outcome.SkipReason.TheVariants as why

-- Why a packet with that frame is skipped: the check that the frame fails first, or else that it carries a message
-- which isn't a response, or is to be ignored (RFC 6762, section 18).
abbrev pub IsSkippedFor : List ℕ → SkipReason → Type 0
IsSkippedFor frame (why.Frame cause) = cause_of frame ≡ Some cause
IsSkippedFor frame why.Query = (payload : List ℕ) × FrameCarries frame payload × IsQuery payload
IsSkippedFor frame why.Ignored = (payload : List ℕ) × FrameCarries frame payload × IsIgnored payload

-- The fault of a damaged message: its header is cut short, or else its first fault in reading order. A query, a message
-- that is to be ignored and an allocation that failed are no damage.
abbrev pub IsDamagedBy : List ℕ → MessageFault → Type 0
IsDamagedBy payload fault.Header = IsShort payload
IsDamagedBy payload fault.Query = ⊥
IsDamagedBy payload fault.Ignored = ⊥
IsDamagedBy payload fault.Memory = ⊥
IsDamagedBy payload damage = MessageFails payload damage

-- why a packet with that frame is refused: the fault of the message that it carries
abbrev pub IsRefusedFor : List ℕ → MessageFault → Type 0
IsRefusedFor frame damage = (payload : List ℕ) × FrameCarries frame payload × IsDamagedBy payload damage

-- the payload is the one that the frame carries, and empty where the frame fails a check
abbrev pub IsPayloadOf : List ℕ → PacketOutcome → List ℕ → Type 0
IsPayloadOf frame (found.Skipped (why.Frame cause)) payload = payload ≡ []
IsPayloadOf frame (found.Skipped why.Query) payload = FrameCarries frame payload
IsPayloadOf frame (found.Skipped why.Ignored) payload = FrameCarries frame payload
IsPayloadOf frame (found.Refused damage) payload = FrameCarries frame payload
IsPayloadOf frame (found.Heard source message) payload = FrameCarries frame payload

-- what was found says why a packet with that frame told nothing, or from which address its message was sent
abbrev pub SaysWhy : List ℕ → PacketOutcome → Type 0
SaysWhy frame (found.Skipped why) = IsSkippedFor frame why
SaysWhy frame (found.Refused damage) = IsRefusedFor frame damage
SaysWhy frame (found.Heard source message) = IsSourceOf frame source
