-- A frame that carries a payload has one source address, which stands at one offset.
use Rattle.std.proofs.Common.{◌≡◌, ◌≤◌, ℕ, ◌+◌, ◌==◌, true, List, ◌++◌, length, drop, take, refl, sym, ap, ◌∙◌, arith, append_assoc}
use Rattle.std.proofs.lemmas.Bool.{eq-eqb}
use Rattle.std.proofs.lemmas.List.{
  length-drop,
  length-take-le,
  length-append,
  take_at,
  drop_at,
  take-append-drop,
  take-append-le,
  drop-append-le,
}
use Rattle.mdns_capture.specs.declared.source_address.{SourceAddress.{SourceAddress}, SourceAddress.TheVariants.{V4, V6}}
use Rattle.mdns_capture.specs.Frame.{
  word_at,
  ipv4_type,
  ipv6_type,
  IsIpv4Header,
  IsIpv6Header,
  CarriesAfter,
  FrameCarries,
  in_ipv4,
  in_ipv6,
}
use Rattle.mdns_capture.specs.Source.{HasSource, IsSentFrom, IsSourceOf, source_at}
use Rattle.mdns_capture.proofs.{FrameLemmas.{StandsIn-from_carries}, FramePartLemmas.{drop_past}}

-- THE HEADER

-- a part of the IP header, as a part of the frame
header_part : (type : ℕ) (IsHeader : List ℕ → ℕ
    → Type 0) (frame payload : List ℕ) (k : CarriesAfter type IsHeader frame payload) (p q n : ℕ)
    → q ≡ 14 + p → p + n ≤ length k.header → take n (drop q frame) ≡ take n (drop p k.header)
header_part type IsHeader frame payload k p q n e room =
    let front = k.addresses ++ k.ether_type in
    let rest = k.datagram ++ k.padding in
    let front_size : length front ≡ 14 = omega (
      arith,
      length-append k.addresses k.ether_type,
      k.two_addresses,
      k.type_size,
    ) in
    let parts : frame ≡ front ++ (k.header ++ rest) = k.parts
    ∙ sym (append_assoc k.addresses k.ether_type (k.header ++ rest)) in
    let cut : drop q (front ++ (k.header ++ rest)) ≡ drop p k.header ++ rest =
    drop_past front (k.header ++ rest) p q (omega arith) ∙ drop-append-le p k.header rest (omega arith) in
    ap (λ (bytes : List ℕ). take n (drop q bytes)) parts ∙ ap (λ (bytes : List ℕ). take n bytes) cut
    ∙ take-append-le n (drop p k.header) rest (omega (arith, length-drop p k.header))

-- a header with room for both addresses has the source that stands there, and no other
source_there : (offset size : ℕ) (header : List ℕ) → offset + size + size ≤ length header
    → HasSource offset size header (take size (drop offset header))
source_there offset size header room =
    let after = drop offset header in
    let onward = drop size after in
    let after_size = length-drop offset header in
    record {
      front = take offset header;
      destination = take size onward;
      options = drop size onward;
      parts = rw (take-append-drop size onward, take-append-drop size after) (sym (take-append-drop offset header));
      front_size = length-take-le offset header (omega arith);
      source_size = length-take-le size after (omega arith);
      destination_size = length-take-le size onward (omega (arith, length-drop size after));
    }

only_source : (offset size : ℕ) (header source : List ℕ) → HasSource offset size header source
    → take size (drop offset header) ≡ source
only_source offset size header source has = grind (arith, drop_at, take_at)

source_room : (offset size : ℕ) (header source : List ℕ) → HasSource offset size header source
    → offset + size ≤ length header
source_room offset size header source has = grind (arith, length-append)

ipv4_room : (header : List ℕ) (count : ℕ) → IsIpv4Header header count → 20 ≤ length header
ipv4_room header count is = omega (arith, is.size, is.at_least)

-- THE FRAME

-- by the EtherType
ipv4_source_at : (frame : List ℕ) → word_at 12 frame ≡ ipv4_type → source_at frame ≡ V4 (take 4 (drop 26 frame))
ipv4_source_at frame type = let ipv4 : (word_at 12 frame == ipv4_type) ≡ true = eq-eqb _ _ type in rw ipv4 refl

ipv6_source_at : (frame : List ℕ) → word_at 12 frame ≡ ipv6_type → source_at frame ≡ V6 (take 16 (drop 22 frame))
ipv6_source_at frame type = grind arith

-- the bytes at the offset of a source address are one, where the header has room for both addresses
sent_from : (type : ℕ) (IsHeader : List ℕ → ℕ → Type 0) (frame payload : List ℕ) (k : CarriesAfter type IsHeader frame payload)
    (offset size q : ℕ) → q ≡ 14 + offset → offset + size + size ≤ length k.header
    → IsSentFrom type IsHeader offset size frame (take size (drop q frame))
sent_from type IsHeader frame payload k offset size q e room = record {
  payload = payload;
  carries = k;
  has_source = rw (header_part type IsHeader frame payload k offset q size e (omega arith)) (source_there offset size k.header room);
}

-- what carries a payload was sent from the address there
pub sent_from_there : (frame payload : List ℕ) → FrameCarries frame payload → IsSourceOf frame (source_at frame)
unfolding IsSourceOf
sent_from_there frame payload (in_ipv4 k) =
    let type = (StandsIn-from_carries ipv4_type IsIpv4Header frame payload k).0 in
    let room = ipv4_room k.header _ k.ip in
    rw (ipv4_source_at frame type) (sent_from ipv4_type IsIpv4Header frame payload k 12 4 26 refl (omega arith))
sent_from_there frame payload (in_ipv6 k) =
    let type = (StandsIn-from_carries ipv6_type IsIpv6Header frame payload k).0 in
    let room = k.ip.size in
    rw (ipv6_source_at frame type) (sent_from ipv6_type IsIpv6Header frame payload k 8 16 22 refl (omega arith))

-- what was sent from an address carries a payload, and has it there
pub carries_if_sent : (frame : List ℕ) (address : SourceAddress) → IsSourceOf frame address
    → (payload : List ℕ) × FrameCarries frame payload
unfolding IsSourceOf
carries_if_sent frame (V4 source) sent = (sent.payload, in_ipv4 sent.carries)
carries_if_sent frame (V6 source) sent = (sent.payload, in_ipv6 sent.carries)

pub source_is_there : (frame : List ℕ) (address : SourceAddress) → IsSourceOf frame address → source_at frame ≡ address
unfolding IsSourceOf
source_is_there frame (V4 source) sent =
    let k = sent.carries in
    let type = (StandsIn-from_carries ipv4_type IsIpv4Header frame sent.payload k).0 in
    let room = source_room 12 4 k.header source sent.has_source in
    ipv4_source_at frame type ∙ ap V4 (header_part ipv4_type IsIpv4Header frame sent.payload k 12 26 4 refl room
    ∙ only_source 12 4 k.header source sent.has_source)
source_is_there frame (V6 source) sent =
    let k = sent.carries in
    let type = (StandsIn-from_carries ipv6_type IsIpv6Header frame sent.payload k).0 in
    let room = source_room 8 16 k.header source sent.has_source in
    ipv6_source_at frame type ∙ ap V6 (header_part ipv6_type IsIpv6Header frame sent.payload k 8 22 16 refl room
    ∙ only_source 8 16 k.header source sent.has_source)

-- what carries a payload has room for the addresses
pub room_for_source : (frame : List ℕ) → (payload : List ℕ) × FrameCarries frame payload → 38 ≤ length frame
room_for_source frame (payload, in_ipv4 k) = grind (arith, StandsIn-from_carries, ipv4_room, length-append)
room_for_source frame (payload, in_ipv6 k) = grind (arith, StandsIn-from_carries ipv6_type IsIpv6Header frame payload k)
