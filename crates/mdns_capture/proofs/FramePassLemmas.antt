-- What passes the checks of a header, as one fact for each check.
use Rattle.std.proofs.Common.{arith, ◌≡◌, ◌≤◌, ℕ, ◌+◌, ◌/◌, List, length, slice_index, None}
use Rattle.std.specs.Prelude.{bit_and}
use Rattle.std.proofs.lemmas.Bool.{leb-true, eqb-true, le-leb, eq-eqb}
use Rattle.mdns_capture.specs.{Savefile.{number_at}, declared.savefile.Endianness.TheVariants.{Big}}
use Rattle.mdns_capture.specs.Frame.{word_at, ipv4_group, ipv6_group, ipv4_size, ipv4_checks, ipv6_checks, ipv4_size_checks}
use Rattle.mdns_capture.specs.Frame.{ipv4_kind_checks, ipv6_size_checks, ipv6_kind_checks, udp_checks, first_failing}
use Rattle.mdns_capture.proofs.FrameCheckLemmas.{passed, pass}

pub record PassesUdp (datagram : List ℕ) : Type 0 where
  pub room : 8 ≤ length datagram
  pub source : word_at 0 datagram ≡ 5353
  pub destination : word_at 2 datagram ≡ 5353
  pub least : 8 ≤ word_at 4 datagram
  pub within : word_at 4 datagram ≤ length datagram

pub record PassesIpv4 (frame : List ℕ) : Type 0 where
  pub room : 34 ≤ length frame
  pub version : slice_index frame 14 / 16 ≡ 4
  pub at_least : 5 ≤ bit_and (slice_index frame 14) 0x0F
  pub total : ipv4_size frame ≤ word_at 16 frame
  pub whole : 14 + word_at 16 frame ≤ length frame
  pub unfragmented : bit_and (word_at 20 frame) 0x3FFF ≡ 0
  pub protocol : slice_index frame 23 ≡ 17
  pub destination : number_at Big 4 30 frame ≡ ipv4_group

pub record PassesIpv6 (frame : List ℕ) : Type 0 where
  pub room : 54 ≤ length frame
  pub version : slice_index frame 14 / 16 ≡ 6
  pub whole : 54 + word_at 18 frame ≤ length frame
  pub next_header : slice_index frame 20 ≡ 17
  pub destination : number_at Big 16 38 frame ≡ ipv6_group

-- THERE AND BACK

pub PassesUdp-from_none : (datagram : List ℕ) → first_failing (udp_checks datagram) ≡ None → PassesUdp datagram
unfolding udp_checks
PassesUdp-from_none datagram none = grind (arith, passed, leb-true, eqb-true)

pub none_from_PassesUdp : (datagram : List ℕ) → PassesUdp datagram → first_failing (udp_checks datagram) ≡ None
unfolding udp_checks
none_from_PassesUdp datagram p = grind (arith, pass, le-leb, eq-eqb)

pub PassesIpv4-from_none : (frame : List ℕ) → first_failing (ipv4_checks frame) ≡ None → PassesIpv4 frame
unfolding ipv4_checks ipv4_size_checks ipv4_kind_checks
PassesIpv4-from_none frame none = grind (arith, passed, leb-true, eqb-true)

pub none_from_PassesIpv4 : (frame : List ℕ) → PassesIpv4 frame → first_failing (ipv4_checks frame) ≡ None
unfolding ipv4_checks ipv4_size_checks ipv4_kind_checks
none_from_PassesIpv4 frame p = grind (arith, pass, le-leb, eq-eqb)

pub PassesIpv6-from_none : (frame : List ℕ) → first_failing (ipv6_checks frame) ≡ None → PassesIpv6 frame
unfolding ipv6_checks ipv6_size_checks ipv6_kind_checks
PassesIpv6-from_none frame none = grind (arith, passed, leb-true, eqb-true)

pub none_from_PassesIpv6 : (frame : List ℕ) → PassesIpv6 frame → first_failing (ipv6_checks frame) ≡ None
unfolding ipv6_checks ipv6_size_checks ipv6_kind_checks
none_from_PassesIpv6 frame p = grind (arith, pass, le-leb, eq-eqb)
