-- A capture that is read packet by packet, for a consumer of its packets.
use Rattle.std.specs.Prelude.{◌≡◌, ℕ, ◌+◌, List, [], ◌∷◌, ◌++◌, length, Option, Some, None, IfSome}
use Rattle.mdns_capture.specs.{Limits.{file_header_size, packet_header_size}, declared.savefile.Ending.{Ending}}
use Rattle.mdns_capture.specs.{declared.savefile.Format.{Format}, Savefile.{header_fault, PacketAt, BeginsWith, CaptureReads, IsFileHeader}}
use Rattle.mdns_capture.specs.{Capture.{Standing, Leads}, Cut.{offset_after}}
use Rattle.mdns_survey.specs.declared.{listen.ListenFault.TheVariants.{Begin}, reading.ReadingFault.{ReadingFault}}
use Rattle.mdns_survey.specs.declared.reading.{ReadingFault.TheVariants.{Listen, Consumer}, Reading.{Reading}, Span.{Span}}
use Rattle.mdns_survey.specs.{declared.skips.Skips.{Skips}, declared.summary.Tally.{Tally}, Outcomes.{Outcome, AllCome, ComesTo, Counts}}
use Rattle.mdns_survey.specs.{Listen.{HasListenFault, IsNoReadFault, packet_moments}, Reasons.{lost_frames}, Skips.{CountsSkips}}
use Rattle.mdns_survey.specs.Span.{span_of}

-- THE FRONT OF A CAPTURE

-- from an offset on, the bytes are these whole packets, and then the rest
abbrev pub PacketsStand : Format → ℕ → List ℕ → List PacketAt → List ℕ → Type 0
PacketsStand format at bytes [] rest = bytes ≡ rest
PacketsStand format at bytes (packet ∷ packets) rest =
    (after : List ℕ) × BeginsWith format at bytes packet after
    × PacketsStand format (at + (packet_header_size + length packet.frame)) after packets rest

-- the bytes are a file header, these whole packets, and a rest
pub record CaptureBegins (bytes : List ℕ) (packets : List PacketAt) : Type 0 where
  pub format : Format
  pub header : List ℕ
  pub body : List ℕ
  pub rest : List ℕ
  pub heads : IsFileHeader format header
  pub whole : bytes ≡ header ++ body
  pub stand : PacketsStand format file_header_size body packets rest

-- the bytes begin with these packets, and the capture goes on after them
pub record GoesOn {R : Type 0} (bytes : List ℕ) (packets : List PacketAt) (capture : Standing R) : Type 0 where
  pub begins : CaptureBegins bytes packets
  pub format : begins.format ≡ capture.format
  pub left : capture.left ≡ Some begins.rest
  pub offset : capture.offset ≡ offset_after file_header_size packets
  pub reads : (more : List PacketAt) (ending : Ending) → Leads capture more ending → CaptureReads bytes (packets ++ more) ending

-- WHAT A CONSUMER TOOK

-- The capture of these bytes, where they are known, was read whole, so that they begin with its packets, which came to
-- outcomes; the summary counts these, the lost frames and the skipped packets are counted, the span is that of the packets, and
-- the consumer took all of them.
pub record ReadsCapture {C : Type 0} (Took : C → C → List PacketAt → List Outcome → Type 0) (left : Option (List ℕ))
    (old new : C) (reading : Reading) : Type 0 where
  pub packets : List PacketAt
  pub outcomes : List Outcome
  pub come : AllCome packets outcomes
  pub counts : Counts outcomes reading.summary.tally
  pub losses : reading.lost ≡ lost_frames packets
  pub skips : CountsSkips packets reading.skips
  pub spans : reading.span ≡ span_of (packet_moments packets)
  pub took : (begun : C) → Took begun old [] [] → Took begun new packets outcomes
  pub begins : IfSome left (λ bytes. CaptureBegins bytes packets)
  pub reads : IfSome left (λ bytes. CaptureReads bytes packets reading.summary.ending)

-- The bytes begin as a capture, where they are known, and the consumer took these first packets of it.
pub record BreaksOff {C : Type 0} (Took Broke : C → C → List PacketAt → List Outcome → Type 0) (left : Option (List ℕ))
    (old new : C) : Type 0 where
  pub packets : List PacketAt
  pub outcomes : List Outcome
  pub come : AllCome packets outcomes
  pub took : (begun : C) → Took begun old [] [] → Broke begun new packets outcomes
  pub begins : IfSome left (λ bytes. CaptureBegins bytes packets)

-- what a consumer took before a fault: nothing where no capture begins
abbrev pub LeavesConsumer : {C F : Type 0} → (C → C → List PacketAt → List Outcome → Type 0)
    → (C → C → List PacketAt → List Outcome → F → Type 0) → Option (List ℕ) → C → C → ReadingFault F → Type 0
LeavesConsumer Took Broke left old new (Listen (Begin fault)) = new ≡ old
LeavesConsumer Took Broke left old new (Listen fault) = BreaksOff Took Took left old new
LeavesConsumer Took Broke left old new (Consumer fault) =
    BreaksOff Took (λ begun now packets outcomes. Broke begun now packets outcomes fault) left old new

-- why the reading broke off, over a reader with these bytes left, where they are known
abbrev pub HasReadFault : {F : Type 0} → Option (List ℕ) → ReadingFault F → Type 0
HasReadFault left (Listen fault) = HasListenFault fault left
HasReadFault left (Consumer fault) = IfSome left (λ bytes. header_fault bytes ≡ None)

-- the fault isn't a read that failed
abbrev pub IsNoCaptureRead : {F : Type 0} → ReadingFault F → Type 0
IsNoCaptureRead (Listen fault) = IsNoReadFault fault
IsNoCaptureRead (Consumer fault) = Unit {0}

-- WHILE A CAPTURE IS READ

-- one packet more is counted, where its frame lost what it said
abbrev pub CountsLoss : PacketAt → ℕ → ℕ → Type 0
CountsLoss packet lost new_lost =
    (packets : List PacketAt) → lost ≡ lost_frames packets → new_lost ≡ lost_frames (packets ++ packet ∷ [])

-- A consumer took one packet more, and the tally counts its outcome.
pub record TakesPacket {C : Type 0} (Took : C → C → List PacketAt → List Outcome → Type 0) (packet : PacketAt)
    (old new : C) (tally new_tally : Tally) : Type 0 where
  pub outcome : Outcome
  pub comes : ComesTo packet.moment packet.frame outcome
  pub counts : (outcomes : List Outcome) → Counts outcomes tally → Counts (outcomes ++ outcome ∷ []) new_tally
  pub took : (begun : C) (packets : List PacketAt) (outcomes : List Outcome)
      → Took begun old packets outcomes → Took begun new (packets ++ packet ∷ []) (outcomes ++ outcome ∷ [])

-- Of a capture that is being read the consumer took these packets so far.
pub record ReadSoFar {R C : Type 0} (Took : C → C → List PacketAt → List Outcome → Type 0) (left : Option (List ℕ))
    (capture : Standing R) (old new : C) (tally : Tally) (lost : ℕ) (skipped : Skips) (span : Option Span) : Type 0 where
  pub packets : List PacketAt
  pub outcomes : List Outcome
  pub come : AllCome packets outcomes
  pub counts : Counts outcomes tally
  pub counted : tally.packets ≡ capture.count
  pub losses : lost ≡ lost_frames packets
  pub skips : CountsSkips packets skipped
  pub spans : span ≡ span_of (packet_moments packets)
  pub took : (begun : C) → Took begun old [] [] → Took begun new packets outcomes
  pub goes_on : IfSome left (λ bytes. GoesOn bytes packets capture)
