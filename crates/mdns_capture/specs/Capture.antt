-- The state of a capture that is being read, and what one step of the reading does to it.
use Rattle.std.specs.Prelude.{◌≡◌, ◌≢◌, ℕ, ◌+◌, ◌*◌, ◌≤◌, ◌↔◌, nat_lt, if◌then◌else◌, IsTrue, IsOk, IsErr, IfSome}
use Rattle.std.specs.Prelude.{List, [], ◌∷◌, ◌++◌, length, take, Option, Some, None, Result, Ok, Err, Bool}
use Rattle.std.specs.{Option.{option_map}, Io.KnownBytes.{Consumes}}
use Rattle.mdns_capture.specs.declared.savefile.{Format.{Format}, Ending.{Ending}, Ending.TheVariants.{Going, Whole, Cut, Fraction, Long}}
use Rattle.mdns_capture.specs.declared.savefile.{Ending.TheVariants.{Many, Failed}, BeginFault.{BeginFault}}
use Rattle.mdns_capture.specs.declared.savefile.BeginFault.TheVariants.{Memory, Read, ShortHeader, Magic, Version, Link}
use Rattle.mdns_capture.specs.declared.savefile.{PacketHeader.{PacketHeader}, PacketOrEnd.{PacketOrEnd}}
use Rattle.mdns_capture.specs.declared.{savefile.PacketOrEnd.TheVariants.{Packet as PacketStep, End}, capture.ReadFault.{ReadFault}}
use Rattle.mdns_capture.specs.{declared.stream.Broken.{Broken}, declared.capture.Packet.{Packet}, Limits.{file_header_size}}
use Rattle.mdns_capture.specs.{Limits.{packet_header_size, longest_packet, most_packets}, Stream.{TakesAtMost, OneMoreFailed}}
use Rattle.mdns_capture.specs.Savefile.{PacketAt, IsFileHeader, IsPacketHeader, PacketsRead, CaptureReads, header_fault, snap_length}
use Rattle.mdns_capture.specs.Savefile.{stop_of}

-- the packet that a capture shows, its moment in nanoseconds
pub record Shown : Type 0 where
  pub nanos : ℕ
  pub at : ℕ
  pub frame : List ℕ

-- The state of a capture that is being read: its reader, the bytes that the reader has left, where they are
-- known, whether the reader is steady, and how many of its reads failed, where that is known; the format and the
-- snapshot length; how many packets were returned; the offset of the next packet header; the ending, and the last
-- packet read.
pub record Standing (R : Type 0) : Type 0 where
  pub reader : R
  pub left : Option (List ℕ)
  pub steady : Bool
  pub failures : Option ℕ
  pub format : Format
  pub snap : ℕ
  pub count : ℕ
  pub offset : ℕ
  pub ending : Ending
  pub current : Option Shown

-- the last packet read, whose bytes are at the front of the buffer
abbrev pub shown : ℕ → List ℕ → PacketHeader → Shown
shown at buffer head = record { nanos = head.moment.nanos; at = at; frame = take head.captured buffer }

-- the shown packet is this one
abbrev pub IsShown : Option PacketAt → Option Shown → Type 0
IsShown None None = Unit {0}
IsShown None (Some shown) = ⊥
IsShown (Some packet) None = ⊥
IsShown (Some packet) (Some shown) =
    (packet.moment.nanos ≡ shown.nanos) × (packet.at ≡ shown.at) × (packet.frame ≡ shown.frame)

-- what is true of a capture's fields at any time: the buffer has room for the longest packet, and the offset is
-- at most that after `count` packets of the greatest length
pub record IsCaptureState (buffer : List ℕ) (count offset : ℕ) (last : Option PacketHeader) : Type 0 where
  pub room : length buffer ≡ longest_packet
  pub counted : count ≤ most_packets
  pub offset_fits : offset ≤ file_header_size + count * (packet_header_size + longest_packet)
  pub short : IfSome last (λ head. head.captured ≤ longest_packet)

-- the reading came to an end, and not by a failed read
abbrev pub IsOver : Ending → Type 0
IsOver Going = ⊥
IsOver Whole = Unit {0}
IsOver (Cut at) = Unit {0}
IsOver (Fraction at) = Unit {0}
IsOver (Long at) = Unit {0}
IsOver (Many at) = Unit {0}
IsOver Failed = ⊥

-- the reading ended at a whole packet header that is no packet's: its fraction or its captured length is out of range
abbrev pub IsDamaged : Ending → Type 0
IsDamaged Going = ⊥
IsDamaged Whole = ⊥
IsDamaged (Cut at) = ⊥
IsDamaged (Fraction at) = Unit {0}
IsDamaged (Long at) = Unit {0}
IsDamaged (Many at) = ⊥
IsDamaged Failed = ⊥

-- the packet, or `Cut` where fewer bytes of its body were read
abbrev pub packet_by : PacketHeader → ℕ → ℕ → PacketOrEnd
packet_by head offset count = if nat_lt count head.captured then End (Cut offset) else PacketStep head

-- the step found a damaged packet header
abbrev pub IsDamagedStep : PacketOrEnd → Type 0
IsDamagedStep (PacketStep head) = ⊥
IsDamagedStep (End ending) = IsDamaged ending

-- `step` is what was read at a packet header's offset: a packet, whose bytes are in the buffer, or an ending.
abbrev pub IsPacketOrEnd : Format → ℕ → Option (List ℕ) → Option (List ℕ) → List ℕ → PacketOrEnd → Type 0
IsPacketOrEnd format offset old new buffer (PacketStep head) =
    (head.captured ≤ longest_packet) × ((header : List ℕ) × IsPacketHeader format header head.moment.nanos head.captured
    × Consumes old new (header ++ take head.captured buffer))
IsPacketOrEnd format offset old new buffer (End ending) =
    IsOver ending × IfSome old (λ bytes. stop_of format offset bytes ≡ Some ending)

-- the ending after what was read at a packet header's offset
abbrev pub ending_after : Result PacketOrEnd Broken → Ending
ending_after (Ok (PacketStep head)) = Going
ending_after (Ok (End ending)) = ending
ending_after (Err broken) = Failed

-- the fault is one of a file header's bytes
abbrev pub IsHeaderFault : BeginFault → Type 0
IsHeaderFault Memory = ⊥
IsHeaderFault Read = ⊥
IsHeaderFault ShortHeader = Unit {0}
IsHeaderFault Magic = Unit {0}
IsHeaderFault Version = Unit {0}
IsHeaderFault Link = Unit {0}

-- why no capture begins at a reader's bytes, where they are known
abbrev pub HasFault : BeginFault → Option (List ℕ) → Type 0
HasFault Memory left = Unit {0}
HasFault Read left = Unit {0}
HasFault fault left = IfSome left (λ bytes. header_fault bytes ≡ Some fault)

-- A capture in this state goes on to return these packets and then has this ending.
unfoldable pub Goes : Format → ℕ → ℕ → List ℕ → List PacketAt → Ending → Ending → Type 0
Goes format count offset bytes packets ending Going = PacketsRead format count offset bytes packets ending
Goes format count offset bytes packets ending over = (packets ≡ []) × (ending ≡ over)

unfoldable pub Leads : {R : Type 0} → Standing R → List PacketAt → Ending → Type 0
Leads capture packets ending =
    IfSome capture.left (λ bytes. Goes capture.format capture.count capture.offset bytes packets ending capture.ending)

-- The state of a capture whose file header was just read from a reader that had these bytes left, and of whose
-- reads `failures` had failed.
pub record Begins {R : Type 0} (left : Option (List ℕ)) (steady : Bool) (failures : Option ℕ) (capture : Standing R) : Type 0 where
  pub header : List ℕ
  pub takes : Consumes left capture.left header
  pub heads : IsFileHeader capture.format header
  pub steadily : IsTrue steady → IsTrue capture.steady
  -- no read failed
  pub unfailed : capture.failures ≡ failures
  pub going : capture.ending ≡ Going
  pub none_yet : capture.count ≡ 0
  pub offset : capture.offset ≡ file_header_size
  -- the bytes are a capture of exactly the packets and the ending that this state leads to
  pub reads : IfSome left (λ bytes. (packets : List PacketAt) (ending : Ending)
      → (Leads capture packets ending ↔ CaptureReads bytes packets ending))
  pub sound : IfSome left (λ bytes. header_fault bytes ≡ None)
  pub states : IfSome left (λ bytes. capture.snap ≡ snap_length bytes)

-- a packet with its bytes by value instead of borrowed
abbrev pub packet_lent : Packet → PacketAt
packet_lent packet = record { moment = packet.moment; at = packet.at; frame = packet.frame.now }

-- what a call of `next` answered
abbrev pub answer_lent : Result (Option Packet) ReadFault → Result (Option PacketAt) ReadFault
answer_lent (Ok answer) = Ok (option_map packet_lent answer)
answer_lent (Err fault) = Err fault

-- `next` returned this packet, and no byte past it was read.
pub record Gives {R : Type 0} (old : Standing R) (packet : PacketAt) (new : Standing R) : Type 0 where
  pub was_going : old.ending ≡ Going
  pub going : new.ending ≡ Going
  pub counted : new.count ≡ old.count + 1
  pub bounded : new.count ≤ most_packets
  pub format : new.format ≡ old.format
  pub at_offset : packet.at ≡ old.offset
  pub offset : new.offset ≡ old.offset + (packet_header_size + length packet.frame)
  pub short : length packet.frame ≤ longest_packet
  pub header : List ℕ
  pub heads : IsPacketHeader old.format header packet.moment.nanos (length packet.frame)
  pub takes : Consumes old.left new.left (header ++ packet.frame)
  pub leads : (packets : List PacketAt) (ending : Ending) → Leads new packets ending → Leads old (packet ∷ packets) ending

-- No packet follows, and nothing more is read.
pub record Ends {R : Type 0} (old new : Standing R) : Type 0 where
  pub over : IsOver new.ending
  pub leads : Leads old [] new.ending

-- The state after each answer of `next`.
abbrev pub NextAnswers : {R : Type 0} → Standing R → Result (Option PacketAt) ReadFault → Standing R → Type 0
NextAnswers old (Ok (Some packet)) new = Gives old packet new
NextAnswers old (Ok None) new = Ends old new
NextAnswers old (Err fault) new = new.ending ≡ Failed

-- nothing is read, and the reading stays ended
abbrev pub Stays : {R : Type 0} → Standing R → Standing R → Type 0
Stays old new = (new.reader ≡ old.reader) × (new.ending ≡ old.ending) × (new.failures ≡ old.failures)

pub record Moves {R : Type 0} (old : Standing R) (answer : Result (Option PacketAt) ReadFault) (new : Standing R) : Type 0 where
  pub answers : NextAnswers old answer new
  -- at most a packet header and a captured length
  pub most : TakesAtMost old.left new.left (packet_header_size + longest_packet)
  -- and of a damaged packet no more than the header
  pub damaged : IsDamaged new.ending → TakesAtMost old.left new.left packet_header_size
  pub snap : new.snap ≡ old.snap
  pub steadily : IsTrue old.steady → IsTrue new.steady
  pub steady : IsTrue old.steady → old.ending ≢ Failed → IsOk answer
  -- a fault is one read that failed, and no other answer hides one
  pub unfailed : IsOk answer → new.failures ≡ old.failures
  pub fails : IsErr answer → old.ending ≢ Failed → OneMoreFailed old.failures new.failures
  -- after the ending
  pub ended : IsOver old.ending → (answer ≡ Ok None) × Stays old new
  -- after a failed read
  pub failed : old.ending ≡ Failed → IsErr answer × Stays old new
  -- after the last packet that is read
  pub full : old.ending ≡ Going → old.count ≡ most_packets → (answer ≡ Ok None) × (new.reader ≡ old.reader) × (new.ending ≡ Many old.offset)

-- a step of the reading, whatever packet is shown after it
abbrev pub Advances : {R : Type 0} → Standing R → Result (Unit {0}) ReadFault → Standing R → Type 0
Advances old (Ok _) new = (packet : Option PacketAt) → IsShown packet new.current → Moves old (Ok packet) new
Advances old (Err fault) new = Moves old (Err fault) new
