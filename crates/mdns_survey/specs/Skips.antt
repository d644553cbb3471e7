-- How many packets of a capture were skipped for each reason.
use Rattle.std.specs.Prelude.{◌≡◌, ◌⊎◌, ℕ, ◌<◌, ◌==◌, Bool, false, List, [], ◌∷◌, ◌++◌, length, slice_index, Option, Some, None, count_by}
use Rattle.mdns_capture.specs.{Frame.{FrameCarries}, Limits.{most_packets}, Savefile.{PacketAt}}
use Rattle.mdns_message.specs.Message.{IsQuery, IsIgnored}
use Rattle.mdns_browse.specs.Services.{AreEach}
use Rattle.mdns_survey.specs.declared.{outcome.PacketOutcome.{PacketOutcome}, outcome.SkipReason.{SkipReason}, skips.Skips.{Skips}}
use Rattle.mdns_survey.specs.{Reasons.{row_of}, Why.{IsSkippedFor}}
use Rattle.mdns_survey.specs.declared.outcome.PacketOutcome.TheVariants as found

-- THE REASONS

-- it is this reason
abbrev pub is_why : SkipReason → Option SkipReason → Bool
is_why own None = false
is_why own (Some other) = (row_of own).place == (row_of other).place

-- THE PACKETS

-- why a packet of which this was found is skipped, if it is
abbrev pub why_of : PacketOutcome → Option SkipReason
why_of (found.Skipped why) = Some why
why_of (found.Refused damage) = None
why_of (found.Heard source message) = None

-- why a packet is skipped, if it is; otherwise it carries a message that isn't skipped
abbrev pub IsSkipOf : PacketAt → Option SkipReason → Type 0
IsSkipOf packet (Some why) = IsSkippedFor packet.frame why
IsSkipOf packet None =
    (payload : List ℕ) × FrameCarries packet.frame payload × ((IsQuery payload ⊎ IsIgnored payload) → ⊥)

-- THE COUNTS

-- how many packets were skipped for this reason, by the counts
abbrev pub count_of : SkipReason → Skips → ℕ
count_of why skips = slice_index skips.counts (row_of why).place

-- Each count is that of the packets that are skipped for its reason.
pub record CountsSkips (packets : List PacketAt) (skips : Skips) : Type 0 where
  pub whys : List (Option SkipReason)
  pub are : AreEach IsSkipOf packets whys
  pub counts : (why : SkipReason) → count_of why skips ≡ count_by (is_why why) whys

-- one packet more is counted, of at most as many as a capture has
abbrev pub CountsSkip : PacketAt → Skips → Skips → Type 0
CountsSkip packet skips new_skips =
    (packets : List PacketAt) → length packets < most_packets → CountsSkips packets skips
    → CountsSkips (packets ++ packet ∷ []) new_skips
