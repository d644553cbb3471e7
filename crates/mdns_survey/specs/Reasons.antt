-- Why packets are skipped, and what is said of each reason.
use Rattle.std.specs.{Prelude.{ℕ, Bool, true, false, List, codes, count_by}, Option.{option_map_or}}
use Rattle.mdns_capture.specs.declared.cause.Cause.TheVariants as cause
use Rattle.mdns_capture.specs.{Frame.{cause_of}, Savefile.{PacketAt}}
use Rattle.mdns_survey.specs.declared.outcome.SkipReason.{SkipReason}
use Rattle.mdns_survey.specs.declared.outcome.SkipReason.TheVariants as why

-- The place of a reason, the checks of frames in their order first; its words, which lead to the cure; and whether a packet that
-- is skipped for it lost what it said: bytes are missing, a header is broken, or there is a VLAN tag. Packets that are skipped for
-- other reasons say nothing of records.
pub record ReasonRow : Type 0 where
  pub place : ℕ
  pub words : List ℕ
  pub loses : Bool

-- the row of a reason; each has a place of its own
abbrev pub row_of : SkipReason → ReasonRow
row_of (why.Frame cause.EthernetCut) = record { place = 0; words = codes "cut within the Ethernet header"; loses = true }
row_of (why.Frame cause.VlanTag) = record { place = 1; words = codes "VLAN tag"; loses = true }
row_of (why.Frame cause.EtherType) = record { place = 2; words = codes "neither IPv4 nor IPv6"; loses = false }
row_of (why.Frame cause.HeaderCut) = record { place = 3; words = codes "cut within the IP header"; loses = true }
row_of (why.Frame cause.IpHeader) = record { place = 4; words = codes "malformed IP header"; loses = true }
row_of (why.Frame cause.TotalLength) = record { place = 5; words = codes "IPv4 total length below its header"; loses = true }
row_of (why.Frame cause.DatagramCut) = record { place = 6; words = codes "cut within the datagram"; loses = true }
row_of (why.Frame cause.Fragment) = record { place = 7; words = codes "fragment"; loses = true }
row_of (why.Frame cause.FragmentHeader) = record { place = 8; words = codes "IPv6 fragment"; loses = true }
row_of (why.Frame cause.Protocol) = record { place = 9; words = codes "not UDP"; loses = false }
row_of (why.Frame cause.ExtensionHeader) = record { place = 10; words = codes "IPv6 extension header"; loses = false }
row_of (why.Frame cause.Group) = record { place = 11; words = codes "not to 224.0.0.251 or ff02::fb"; loses = false }
row_of (why.Frame cause.Port) = record { place = 12; words = codes "another port"; loses = false }
row_of (why.Frame cause.UdpLength) = record { place = 13; words = codes "UDP length out of range"; loses = true }
row_of why.Query = record { place = 14; words = codes "query"; loses = false }
row_of why.Ignored = record { place = 15; words = codes "OPCODE or RCODE"; loses = false }

-- the packet's frame lost what it said: the check that it fails first says so, and one that fails none didn't
abbrev pub loses_frame : PacketAt → Bool
loses_frame packet = option_map_or (λ failed. (row_of (why.Frame failed)).loses) (cause_of packet.frame) false

-- how many of the packets' frames lost what they said
abbrev pub lost_frames : List PacketAt → ℕ
lost_frames packets = count_by loses_frame packets
