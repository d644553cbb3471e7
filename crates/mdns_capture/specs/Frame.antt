-- Which payload of Multicast DNS an Ethernet frame carries, and why a frame carries none.
-- Numbers in frames are big-endian (RFC 791 appendix B).
use Rattle.std.specs.Prelude.{
  ◌≡◌,
  ◌≤◌,
  ℕ,
  zero,
  suc,
  ◌+◌,
  ◌-◌,
  ◌*◌,
  ◌/◌,
  ◌==◌,
  ◌&&◌,
  ◌||◌,
  nat_le,
  Bool,
  false,
  if◌then◌else◌,
  List,
  [],
  ◌∷◌,
  ◌++◌,
  length,
  drop,
  take,
  slice_index,
  Option,
  Some,
  None,
  bit_and,
}
use Rattle.std.specs.Option.{option_map}
use Rattle.mdns_capture.specs.{Savefile.{number_at}, declared.savefile.Endianness.TheVariants.{Big}, declared.cause.Cause.{Cause}}
use Rattle.mdns_capture.specs.declared.cause.Cause.TheVariants.{
  EthernetCut,
  VlanTag,
  EtherType,
  HeaderCut,
  IpHeader,
  TotalLength,
  DatagramCut,
  Fragment as FragmentCause,
  FragmentHeader,
  Protocol,
  ExtensionHeader,
  Group,
  Port,
  UdpLength,
}
use Rattle.mdns_capture.specs.declared.frame.{Skip.{Skip}, Skip.TheVariants.{Short, Other, Fragment}}

-- the number in the two bytes at an offset, the most significant first
abbrev pub word_at : ℕ → List ℕ → ℕ
word_at offset bytes = number_at Big 2 offset bytes

-- the EtherTypes of IPv4 (RFC 894) and of IPv6 (RFC 2464 section 3)
abbrev pub ipv4_type : ℕ
ipv4_type = 0x0800

abbrev pub ipv6_type : ℕ
ipv6_type = 0x86DD

-- the number of UDP as an IPv4 protocol and an IPv6 next header, and the size of its header (RFC 768)
abbrev pub udp_protocol : ℕ
udp_protocol = 17

abbrev pub udp_header_size : ℕ
udp_header_size = 8

-- the port of Multicast DNS (RFC 6762 section 3)
abbrev pub mdns_port : ℕ
mdns_port = 5353

-- the addresses of Multicast DNS, 224.0.0.251 and FF02::FB (RFC 6762 section 3)
abbrev pub ipv4_group : ℕ
ipv4_group = 0xE000_00FB

abbrev pub ipv6_group : ℕ
ipv6_group = 0xFF02_0000_0000_0000_0000_0000_0000_00FB

-- An IPv4 header (RFC 791 section 3.1) before `count` bytes of UDP, sent to the group, of a datagram that is whole
-- (no more-fragments flag and no fragment offset). Its size is counted in words of four bytes, and its total length
-- counts the header too.
pub record IsIpv4Header (header : List ℕ) (count : ℕ) : Type 0 where
  pub version : slice_index header 0 / 16 ≡ 4
  pub size : length header ≡ 4 * bit_and (slice_index header 0) 0x0F
  pub at_least : 5 ≤ bit_and (slice_index header 0) 0x0F
  pub total_length : word_at 2 header ≡ length header + count
  pub unfragmented : bit_and (word_at 6 header) 0x3FFF ≡ 0
  pub protocol : slice_index header 9 ≡ udp_protocol
  pub destination : number_at Big 4 16 header ≡ ipv4_group

-- An IPv6 header (RFC 8200 section 3) before `count` bytes of UDP, sent to the group. UDP is the next header, so there
-- are no extension headers. Its payload length doesn't count the header.
pub record IsIpv6Header (header : List ℕ) (count : ℕ) : Type 0 where
  pub size : length header ≡ 40
  pub version : slice_index header 0 / 16 ≡ 6
  pub payload_length : word_at 4 header ≡ count
  pub next_header : slice_index header 6 ≡ udp_protocol
  pub destination : number_at Big 16 24 header ≡ ipv6_group

-- A UDP header (RFC 768) before a payload, from port 5353 to port 5353 (RFC 6762 sections 3 and 6). Its length counts the header too.
pub record IsUdpHeader (header payload : List ℕ) : Type 0 where
  pub size : length header ≡ udp_header_size
  pub source : word_at 0 header ≡ mdns_port
  pub destination : word_at 2 header ≡ mdns_port
  pub counted : word_at 4 header ≡ udp_header_size + length payload

-- The data after an IP header: a UDP header, its payload, and any bytes that the UDP length doesn't count.
pub record IsUdpDatagram (datagram payload : List ℕ) : Type 0 where
  pub header : List ℕ
  pub uncounted : List ℕ
  pub parts : datagram ≡ header ++ (payload ++ uncounted)
  pub udp : IsUdpHeader header payload

-- An Ethernet frame (RFC 894, RFC 2464) carries the payload after an IP header: two addresses, the EtherType, the
-- IP header, the datagram that it counts, and any padding.
pub record CarriesAfter (type : ℕ) (IsHeader : List ℕ → ℕ → Type 0) (frame payload : List ℕ) : Type 0 where
  pub addresses : List ℕ
  pub ether_type : List ℕ
  pub header : List ℕ
  pub datagram : List ℕ
  pub padding : List ℕ
  pub parts : frame ≡ addresses ++ (ether_type ++ (header ++ (datagram ++ padding)))
  pub two_addresses : length addresses ≡ 12
  pub type_size : length ether_type ≡ 2
  pub is_type : word_at 0 ether_type ≡ type
  pub ip : IsHeader header (length datagram)
  pub udp : IsUdpDatagram datagram payload

-- The frame carries the payload, in IPv4 or in IPv6.
pub data FrameCarries (frame payload : List ℕ) : Type 0 where
  in_ipv4 : CarriesAfter ipv4_type IsIpv4Header frame payload → FrameCarries frame payload
  in_ipv6 : CarriesAfter ipv6_type IsIpv6Header frame payload → FrameCarries frame payload

-- WHY A FRAME CARRIES NONE

-- A check of a frame, and its name.
abbrev pub Check : Type 0
Check = Bool × Cause

-- the first check that fails, if there is one
abbrev pub first_failing : List Check → Option Cause
first_failing [] = None
first_failing (check ∷ checks) = if check.0 then first_failing checks else Some check.1

-- the check that an EtherType of neither IPv4 nor IPv6 fails: a VLAN tag is 0x8100, or 0x88A8 (IEEE 802.1Q)
unfoldable pub other_type_cause : ℕ → Cause
other_type_cause type = if (type == 0x8100) || (type == 0x88A8) then VlanTag else EtherType

-- whether a next header is an IPv6 extension header other than that of a fragment (RFC 7045 section 4)
abbrev pub is_extension_header : ℕ → Bool
is_extension_header next =
    (next == 0) || ((next == 43) || ((next == 50) || ((next == 51) || ((next == 60)
    || ((next == 135) || ((next == 139) || ((next == 140) || ((next == 253) || (next == 254)))))))))

-- whether a next header is that of a fragment (RFC 8200 section 4.5)
abbrev pub is_fragment_header : ℕ → Bool
is_fragment_header next = next == 44

-- whether it is that of hop-by-hop options, routing or destination options, which may come before a fragment's (RFC 8200
-- section 4.1)
abbrev pub is_before_fragments : ℕ → Bool
is_before_fragments next = (next == 0) || ((next == 43) || (next == 60))

-- whether a chain of such headers leads to a fragment's, where the header after the first `left` bytes is `next`. Each of
-- them is whole: its first byte names the header after it, and its second byte counts its bytes in eights, without the
-- first eight (RFC 8200 sections 4.3, 4.4 and 4.6).
abbrev pub leads_to_fragment : ℕ → ℕ → List ℕ → Bool
leads_to_fragment next zero [] = is_fragment_header next
leads_to_fragment next (suc left) [] = false
leads_to_fragment next zero (after ∷ bytes) =
    is_fragment_header next || (is_before_fragments next && leads_to_fragment after (7 + 8 * slice_index bytes 0) bytes)
leads_to_fragment next (suc left) (byte ∷ bytes) = leads_to_fragment next left bytes

-- the check that a next header which isn't UDP fails, where these bytes follow the IPv6 header
unfoldable pub other_header_cause : ℕ → List ℕ → Cause
other_header_cause next bytes =
    if leads_to_fragment next 0 bytes then FragmentHeader
    else if is_extension_header next then ExtensionHeader else Protocol

-- the size of a frame's IPv4 header: four bytes for each of the words that the lower half of its first byte counts
abbrev pub ipv4_size : List ℕ → ℕ
ipv4_size frame = 4 * bit_and (slice_index frame 14) 0x0F

-- the bytes after the IPv4 header that its total length counts
unfoldable pub ipv4_data : List ℕ → List ℕ
ipv4_data frame = take (word_at 16 frame - ipv4_size frame) (drop (14 + ipv4_size frame) frame)

-- the checks of the sizes in an IPv4 header, and of the bytes that it counts
unfoldable pub ipv4_size_checks : List ℕ → List Check
ipv4_size_checks frame =
    (nat_le 34 (length frame), HeaderCut)
    ∷ (slice_index frame 14 / 16 == 4, IpHeader)
    ∷ (nat_le 5 (bit_and (slice_index frame 14) 0x0F), IpHeader)
    ∷ (nat_le (ipv4_size frame) (word_at 16 frame), TotalLength)
    ∷ (nat_le (14 + word_at 16 frame) (length frame), DatagramCut)
    ∷ []

-- the checks of fragment, protocol and address
unfoldable pub ipv4_kind_checks : List ℕ → List Check
ipv4_kind_checks frame =
    (bit_and (word_at 20 frame) 0x3FFF == 0, FragmentCause)
    ∷ (slice_index frame 23 == udp_protocol, Protocol)
    ∷ (number_at Big 4 30 frame == ipv4_group, Group)
    ∷ []

unfoldable pub ipv4_checks : List ℕ → List Check
ipv4_checks frame = ipv4_size_checks frame ++ ipv4_kind_checks frame

-- the bytes after the IPv6 header that its payload length counts
unfoldable pub ipv6_data : List ℕ → List ℕ
ipv6_data frame = take (word_at 18 frame) (drop 54 frame)

-- the same of an IPv6 header
unfoldable pub ipv6_size_checks : List ℕ → List Check
ipv6_size_checks frame =
    (nat_le 54 (length frame), HeaderCut)
    ∷ (slice_index frame 14 / 16 == 6, IpHeader)
    ∷ (nat_le (54 + word_at 18 frame) (length frame), DatagramCut)
    ∷ []

unfoldable pub ipv6_kind_checks : List ℕ → List Check
ipv6_kind_checks frame =
    (slice_index frame 20 == udp_protocol, other_header_cause (slice_index frame 20) (ipv6_data frame))
    ∷ (number_at Big 16 38 frame == ipv6_group, Group)
    ∷ []

unfoldable pub ipv6_checks : List ℕ → List Check
ipv6_checks frame = ipv6_size_checks frame ++ ipv6_kind_checks frame

-- the checks up to the IP header, which the EtherType names
unfoldable pub ip_checks : List ℕ → List Check
ip_checks frame =
    (nat_le 14 (length frame), EthernetCut)
    ∷ (if word_at 12 frame == ipv4_type then ipv4_checks frame
    else if word_at 12 frame == ipv6_type then ipv6_checks frame
    else (false, other_type_cause (word_at 12 frame)) ∷ [])

-- the data after that header, used only where these checks pass
unfoldable pub ip_data : List ℕ → List ℕ
ip_data frame = if word_at 12 frame == ipv4_type then ipv4_data frame else ipv6_data frame

-- the checks of a UDP datagram, the data of an IP header
unfoldable pub udp_checks : List ℕ → List Check
udp_checks datagram =
    (nat_le udp_header_size (length datagram), UdpLength)
    ∷ (word_at 0 datagram == mdns_port, Port)
    ∷ (word_at 2 datagram == mdns_port, Port)
    ∷ (nat_le udp_header_size (word_at 4 datagram), UdpLength)
    ∷ (nat_le (word_at 4 datagram) (length datagram), UdpLength)
    ∷ []

-- the payload of a datagram that passes them
unfoldable pub udp_payload : List ℕ → List ℕ
udp_payload datagram = take (word_at 4 datagram - udp_header_size) (drop udp_header_size datagram)

-- the checks of a frame, in their order
abbrev pub frame_checks : List ℕ → List Check
frame_checks frame = ip_checks frame ++ udp_checks (ip_data frame)

-- why the frame carries nothing: the first of its checks that fails
unfoldable pub cause_of : List ℕ → Option Cause
cause_of frame = first_failing (frame_checks frame)

-- the kind of a check
abbrev pub skip_of_cause : Cause → Skip
skip_of_cause EthernetCut = Short
skip_of_cause VlanTag = Other
skip_of_cause EtherType = Other
skip_of_cause HeaderCut = Short
skip_of_cause IpHeader = Other
skip_of_cause TotalLength = Short
skip_of_cause DatagramCut = Short
skip_of_cause FragmentCause = Fragment
skip_of_cause FragmentHeader = Other
skip_of_cause Protocol = Other
skip_of_cause ExtensionHeader = Other
skip_of_cause Group = Other
skip_of_cause Port = Other
skip_of_cause UdpLength = Short

-- the same by the kind of that check
unfoldable pub skip_of : List ℕ → Option Skip
skip_of frame = option_map skip_of_cause (cause_of frame)
