-- The packets of a capture have few enough hearings: the header of a message counts its records in 16 bits.
use Rattle.std.proofs.Common.{ℕ, ◌+◌, ◌*◌, ◌≤◌, List, [], ◌∷◌, ◌++◌, length, subst, arith}
use Rattle.mdns_capture.specs.declared.savefile.{Ending.{Ending}, Format.{Format}}
use Rattle.mdns_capture.specs.{Frame.{CarriesAfter, FrameCarries, in_ipv4, in_ipv6}, Savefile.{CaptureReads, PacketAt, PacketsRead}}
use Rattle.mdns_message.proofs.FaultKindLemmas.{few_hearings}
use Rattle.mdns_survey.specs.Outcomes.{AllCome, ComesTo, Outcome, heard, hearings_of_outcome, is_heard, refused, skipped}
use Rattle.mdns_survey.proofs.{ByteLemmas.{AreBytes, bytes_left, bytes_right}, CountLemmas.{AreFew, few-cons, one_if}}

-- FRAMES

-- the frames are of bytes
abbrev pub AreFrames : List PacketAt → Type 0
AreFrames [] = Unit {0}
AreFrames (packet ∷ packets) = AreBytes packet.frame × AreFrames packets

frames_read : (format : Format) (count at : ℕ) (bytes : List ℕ) (packets : List PacketAt) (ending : Ending)
    → AreBytes bytes → PacketsRead format count at bytes packets ending → AreFrames packets
frames_read format count at bytes [] ending are read = tt
frames_read format count at bytes (packet ∷ packets) ending are (within, (rest, begins, read)) =
    let after = bytes_right begins.header (packet.frame ++ rest) (subst AreBytes begins.whole are) in (
      bytes_left packet.frame rest after,
      frames_read format (count + 1) (at + (16 + length packet.frame)) rest packets ending (bytes_right packet.frame rest after) read,
    )

frames-split : (front back : List PacketAt) → AreFrames (front ++ back) → AreFrames front × AreFrames back
frames-split [] back frames = (tt, frames)
frames-split (packet ∷ front) back frames = let rest = frames-split front back frames.1 in ((frames.0, rest.0), rest.1)

pub frames_of_parts : (bytes : List ℕ) (front back : List PacketAt) (ending : Ending)
    → AreBytes bytes → CaptureReads bytes (front ++ back) ending → AreFrames front × AreFrames back
frames_of_parts bytes front back ending are reads =
    let rest = bytes_right reads.header reads.rest (subst AreBytes reads.whole are) in
    frames-split front back (frames_read reads.format 0 24 reads.rest (front ++ back) ending rest reads.reads)

-- PAYLOADS

payload_after : (type : ℕ) (IsHeader : List ℕ → ℕ → Type 0) (frame payload : List ℕ) → CarriesAfter type IsHeader frame payload
    → AreBytes frame → AreBytes payload
payload_after type IsHeader frame payload carries are =
    let typed = bytes_right carries.addresses
    (carries.ether_type ++ (carries.header ++ (carries.datagram ++ carries.padding)))
    (subst AreBytes carries.parts are) in
    let headed = bytes_right carries.ether_type (carries.header ++ (carries.datagram ++ carries.padding)) typed in
    let datagram = bytes_left carries.datagram carries.padding (bytes_right carries.header (carries.datagram ++ carries.padding) headed) in
    let after = bytes_right carries.udp.header (payload ++ carries.udp.uncounted) (subst AreBytes carries.udp.parts datagram) in
    bytes_left payload carries.udp.uncounted after

payload_bytes : (frame payload : List ℕ) → FrameCarries frame payload → AreBytes frame → AreBytes payload
payload_bytes frame payload (in_ipv4 carries) are = payload_after _ _ frame payload carries are
payload_bytes frame payload (in_ipv6 carries) are = payload_after _ _ frame payload carries are

-- HEARINGS

few_comes : (packet : PacketAt) (outcome : Outcome) → AreBytes packet.frame → ComesTo packet.moment packet.frame outcome
    → length (hearings_of_outcome outcome) ≤ one_if is_heard outcome * 131070
few_comes packet skipped are comes = omega arith
few_comes packet refused are comes = omega arith
few_comes packet (heard hearings) are comes =
    let few = few_hearings packet.moment comes.0 hearings (payload_bytes packet.frame comes.0 comes.1 are) comes.2 in omega (arith, few)

pub few_come : (packets : List PacketAt) (outcomes : List Outcome) → AreFrames packets → AllCome packets outcomes → AreFew outcomes
few_come [] [] frames come = omega arith
few_come [] (outcome ∷ outcomes) frames come = absurd come
few_come (packet ∷ packets) [] frames come = absurd come
few_come (packet ∷ packets) (outcome ∷ outcomes) frames come =
    few-cons outcome outcomes (few_comes packet outcome frames.0 come.0) (few_come packets outcomes frames.1 come.1)
