-- What the readings of several captures say together.
use Rattle.std.specs.{Prelude.{◌≡◌, ℕ, ◌+◌, List, map, sum_by}, List.{flat_map}}
use Rattle.mdns_capture.specs.{declared.moment.Moment.{Moment}, Savefile.{PacketAt}}
use Rattle.mdns_survey.specs.declared.{outcome.SkipReason.{SkipReason}, reading.Reading.{Reading}, summary.Summary.{Summary}}
use Rattle.mdns_survey.specs.{Listen.{packet_moments}, Reasons.{lost_frames}, Skips.{count_of}, Span.{span_of}}

-- the summaries of captures with these readings
abbrev pub summaries_of : List Reading → List Summary
summaries_of readings = map (λ reading. reading.summary) readings

-- the readings count the lost frames of captures with these packets
abbrev pub CountLosses : List (List PacketAt) → List Reading → Type 0
CountLosses packets readings = map (λ reading. reading.lost) readings ≡ map lost_frames packets

-- how many frames lost what they said, and messages are damaged, by the readings
abbrev pub lost_in : List Reading → ℕ
lost_in readings = sum_by (λ reading. reading.lost + reading.summary.tally.refused) readings

-- how many packets were skipped for this reason, by the readings
abbrev pub skipped_in : SkipReason → List Reading → ℕ
skipped_in why readings = sum_by (λ reading. count_of why reading.skips) readings

-- how many messages are damaged, by the readings
abbrev pub refused_in : List Reading → ℕ
refused_in readings = sum_by (λ reading. reading.summary.tally.refused) readings

-- the readings have the spans of captures with these packets
abbrev pub HaveSpans : List (List PacketAt) → List Reading → Type 0
HaveSpans packets readings = map (λ reading. reading.span) readings ≡ map (λ ps. span_of (packet_moments ps)) packets

-- the moments of the packets of all captures
abbrev pub all_moments : List (List PacketAt) → List Moment
all_moments packets = flat_map packet_moments packets
