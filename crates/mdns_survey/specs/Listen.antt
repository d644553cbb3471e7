-- The answers of `listen`.
use Rattle.std.specs.Prelude.{◌≡◌, ℕ, List, [], ◌∷◌, ◌++◌, map, Option, Some, None, IfSome}
use Rattle.mdns_capture.specs.declared.{moment.Moment.{Moment}, savefile.BeginFault.TheVariants.{Memory as BeginMemory, Read as BeginRead}}
use Rattle.mdns_capture.specs.Savefile.{header_fault, snap_length, CaptureReads, PacketAt}
use Rattle.mdns_cache.specs.Contents.{StandsFor}
use Rattle.mdns_survey.specs.declared.listen.{ListenFault.{ListenFault}, ListenFault.TheVariants.{Begin, Read}}
use Rattle.mdns_survey.specs.declared.{outcome.PacketOutcome.{PacketOutcome}, listen.Heard.{Heard}, reading.Reading.{Reading}}
use Rattle.mdns_survey.specs.Outcomes.{Outcome, skipped, refused, heard, AllCome, CaptureTells, Counts, hearings_in}
use Rattle.mdns_survey.specs.{Reasons.{lost_frames}, Skips.{CountsSkips}, Span.{span_of}}
use Rattle.mdns_survey.specs.declared.outcome.PacketOutcome.TheVariants as found
use Rattle.mdns_message.specs.declared.hearing.Hearing.{Hearing}

-- the outcome that was found
abbrev pub outcome_of : PacketOutcome → Outcome
outcome_of (found.Skipped why) = skipped
outcome_of (found.Refused damage) = refused
outcome_of (found.Heard source message) = heard message.now

-- The bytes are a capture, the tally counts the outcomes of its packets, the ending is the capture's, and the cache
-- stands for the hearings of all its packets.
pub record Listens (bytes : List ℕ) (given : Heard) : Type 0 where
  pub outcomes : List Outcome
  pub tells : CaptureTells bytes outcomes given.ending
  pub counts : Counts outcomes given.tally
  pub stands : StandsFor given.cache (hearings_in outcomes)

-- why nothing was heard of these bytes, where they are known: the first fault of their file header, or a read or an
-- allocation that failed
abbrev pub HasListenFault : ListenFault → Option (List ℕ) → Type 0
HasListenFault (Begin BeginMemory) left = Unit {0}
HasListenFault (Begin BeginRead) left = Unit {0}
HasListenFault (Begin fault) left = IfSome left (λ bytes. header_fault bytes ≡ Some fault)
HasListenFault _ left = IfSome left (λ bytes. header_fault bytes ≡ None)

-- the fault isn't a read that failed
abbrev pub IsNoReadFault : ListenFault → Type 0
IsNoReadFault (Begin BeginRead) = ⊥
IsNoReadFault Read = ⊥
IsNoReadFault _ = Unit {0}

abbrev pub packet_moments : List PacketAt → List Moment
packet_moments packets = map (λ packet. packet.moment) packets

-- packets that came to these outcomes were taken: their hearings
abbrev pub HearsPackets : {H : Type 0} → (H → H → List Hearing → Type 0) → H → H → List PacketAt → List Outcome → Type 0
HearsPackets {H} Stands hearer new_hearer packets outcomes =
    (begun : H) (heard : List Hearing) → Stands begun hearer heard → Stands begun new_hearer (heard ++ hearings_in outcomes)

-- The capture of these bytes, where they are known, has these packets, and ends as the summary says, and its header states
-- the snapshot length; its packets came to the outcomes, which the summary counts, their lost frames and skipped packets are
-- counted, and the span is theirs.
pub record IsReadingOf (left : Option (List ℕ)) (packets : List PacketAt) (outcomes : List Outcome) (reading : Reading) : Type 0 where
  pub reads : IfSome left (λ bytes. CaptureReads bytes packets reading.summary.ending)
  pub states : IfSome left (λ bytes. reading.snap_length ≡ snap_length bytes)
  pub come : AllCome packets outcomes
  pub counts : Counts outcomes reading.summary.tally
  pub losses : reading.lost ≡ lost_frames packets
  pub skips : CountsSkips packets reading.skips
  pub spans : reading.span ≡ span_of (packet_moments packets)

-- The reading is that of a capture, and a consumer that had taken nothing took its packets, with their outcomes.
pub record TakesCapture {C : Type 0} (Took : C → C → List PacketAt → List Outcome → Type 0) (left : Option (List ℕ)) (old new : C)
    (reading : Reading) : Type 0 where
  pub packets : List PacketAt
  pub outcomes : List Outcome
  pub is_reading : IsReadingOf left packets outcomes reading
  pub took : (begun : C) → Took begun old [] [] → Took begun new packets outcomes

-- The reading is that of a capture, and its packets, with their outcomes, were heard after those of the captures before it.
pub record ListensTo {L : Type 0} (HeardAll : L → L → List (List PacketAt) → List (List Outcome) → Type 0)
    (left : Option (List ℕ)) (collector new_collector : L) (reading : Reading) : Type 0 where
  pub packets : List PacketAt
  pub outcomes : List Outcome
  pub is_reading : IsReadingOf left packets outcomes reading
  pub hears : (begun : L) (earlier : List (List PacketAt)) (before : List (List Outcome)) → HeardAll begun collector earlier before
      → HeardAll begun new_collector (earlier ++ packets ∷ []) (before ++ outcomes ∷ [])
