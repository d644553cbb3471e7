-- From which address the datagram in a frame was sent.
use Rattle.std.specs.Prelude.{◌≡◌, ℕ, ◌==◌, if◌then◌else◌, List, ◌++◌, length, drop, take}
use Rattle.mdns_capture.specs.declared.source_address.{SourceAddress.{SourceAddress}, SourceAddress.TheVariants.{V4, V6}}
use Rattle.mdns_capture.specs.Frame.{word_at, ipv4_type, ipv6_type, IsIpv4Header, IsIpv6Header, CarriesAfter}

-- An IP header has its source address after so many bytes, and then the destination address, of the same size.
pub record HasSource (offset size : ℕ) (header source : List ℕ) : Type 0 where
  pub front : List ℕ
  pub destination : List ℕ
  pub options : List ℕ
  pub parts : header ≡ front ++ (source ++ (destination ++ options))
  pub front_size : length front ≡ offset
  pub source_size : length source ≡ size
  pub destination_size : length destination ≡ size

-- A frame carries some payload after an IP header with this source address.
pub record IsSentFrom (type : ℕ) (IsHeader : List ℕ → ℕ → Type 0) (offset size : ℕ) (frame source : List ℕ)
    : Type 0 where
  pub payload : List ℕ
  pub carries : CarriesAfter type IsHeader frame payload
  pub has_source : HasSource offset size carries.header source

-- The frame carries a payload that was sent from the address: of four bytes after twelve in an IPv4 header (RFC 791
-- section 3.1), of sixteen after eight in an IPv6 header (RFC 8200 section 3).
unfoldable pub IsSourceOf : List ℕ → SourceAddress → Type 0
IsSourceOf frame (V4 source) = IsSentFrom ipv4_type IsIpv4Header 12 4 frame source
IsSourceOf frame (V6 source) = IsSentFrom ipv6_type IsIpv6Header 8 16 frame source

-- that address of a frame that carries a payload, by its offset in the frame
abbrev pub source_at : List ℕ → SourceAddress
source_at frame = if word_at 12 frame == ipv4_type then V4 (take 4 (drop 26 frame)) else V6 (take 16 (drop 22 frame))
