-- A frame carries at most one payload, and carries one exactly where no check fails.
use Rattle.std.proofs.Common.{◌≡◌, ◌≤◌, ◌<◌, ℕ, ◌+◌, ◌-◌, ◌==◌, Bool, true, false, cond, List, [], ◌∷◌}
use Rattle.std.proofs.Common.{◌++◌, length, drop, take, slice_index, Option, Some, None, refl, sym, ap, ◌∙◌, subst}
use Rattle.std.proofs.Common.{arith, append_assoc, ◌⊎◌, inl, inr}
use Rattle.std.specs.Prelude.{Result, Ok, Err, IfOk, IsOkAnd, MatchResult}
use denote.Bor.{Bor}
use Rattle.std.specs.Option.{option_map}
use Rattle.std.proofs.lemmas.Bool.{eqb-true, le-leb, eq-eqb}
use Rattle.std.proofs.lemmas.List.{length-drop, length-take-le, length-append, take_at, drop_at, take-append-drop, drop-drop}
use Rattle.mdns_capture.specs.{declared.cause.Cause.{Cause}, declared.frame.Skip.{Skip}, Savefile.{number_at}}
use Rattle.mdns_capture.specs.declared.savefile.Endianness.TheVariants.{Big}
use Rattle.mdns_capture.specs.Frame.{word_at, ipv4_size, ipv4_data, ipv4_checks, ipv6_data, ipv6_checks, ip_data, ip_checks, udp_checks}
use Rattle.mdns_capture.specs.Frame.{udp_payload, first_failing, cause_of, skip_of, skip_of_cause, other_type_cause, IsIpv4Header}
use Rattle.mdns_capture.specs.Frame.{IsIpv6Header, IsUdpDatagram, CarriesAfter, FrameCarries, in_ipv4, in_ipv6}
use Rattle.mdns_capture.proofs.FrameCheckLemmas.{passed, both_passed, cause_by_layer}
use Rattle.mdns_capture.proofs.FramePassLemmas.{PassesUdp, PassesIpv4, PassesIpv6, PassesUdp-from_none, none_from_PassesUdp}
use Rattle.mdns_capture.proofs.FramePassLemmas.{PassesIpv4-from_none, none_from_PassesIpv4, PassesIpv6-from_none, none_from_PassesIpv6}
use Rattle.mdns_capture.proofs.FramePartLemmas.{number-past, number-within, byte-past, byte-within}

-- THE UDP DATAGRAM

-- a datagram passes, and gives its payload
udp_passes : (datagram payload : List ℕ) → IsUdpDatagram datagram payload → PassesUdp datagram × (udp_payload datagram ≡ payload)
unfolding udp_payload
udp_passes datagram payload is = grind (
  arith,
  length-append is.header (payload ++ is.uncounted),
  length-append payload is.uncounted,
  number-within,
  drop_at is.header (payload ++ is.uncounted) 8 is.udp.size,
  take_at payload is.uncounted,
)

-- what passes is a datagram of the payload that it gives
udp_datagram : (datagram : List ℕ) → PassesUdp datagram → IsUdpDatagram datagram (udp_payload datagram)
unfolding udp_payload
udp_datagram datagram p =
    let header = take 8 datagram in
    let body = drop 8 datagram in
    let count = word_at 4 datagram - 8 in
    let cut : header ++ body ≡ datagram = take-append-drop 8 datagram in
    let word : (n : ℕ) → n + 2 ≤ length header → word_at n datagram ≡ word_at n header =
    λ n h. ap (λ (bytes : List ℕ). word_at n bytes) (sym cut) ∙ number-within Big 2 n header body h in
    record {
      header = header;
      uncounted = drop count body;
      parts = rw (take-append-drop count body) (sym cut);
      udp = grind (arith, length-take-le, length-drop 8 datagram, word 0, word 2, word 4);
    }

-- THE PARTS OF A FRAME

-- after 14 bytes of a frame are an IP header and its data
pub record StandsIn (frame header datagram : List ℕ) : Type 0 where
  pub number : (size p q : ℕ) → q ≡ 14 + p → p + size ≤ length header → number_at Big size q frame ≡ number_at Big size p header
  pub byte : (p q : ℕ) → q ≡ 14 + p → p < length header → slice_index frame q ≡ slice_index header p
  pub cut : take (length datagram) (drop (14 + length header) frame) ≡ datagram
  pub long : 14 + length header + length datagram ≤ length frame

StandsIn-from_parts : (frame front header datagram padding : List ℕ)
    → frame ≡ front ++ (header ++ (datagram ++ padding)) → length front ≡ 14 → StandsIn frame header datagram
StandsIn-from_parts frame front header datagram padding parts size =
    let rest = datagram ++ padding in
    record {
      number = λ n p q e h. ap (λ (bytes : List ℕ). number_at Big n q bytes) parts
          ∙ number-past n front (header ++ rest) p q (omega arith) ∙ number-within Big n p header rest h;
      byte = λ p q e h. ap (λ (bytes : List ℕ). slice_index bytes q) parts
          ∙ byte-past front (header ++ rest) p q (omega arith) ∙ byte-within header rest p h;
      cut = grind (arith, append_assoc front header rest, drop_at (front ++ header) rest, length-append front header, take_at);
      long = grind (arith, length-append);
    }

-- the EtherType is after the addresses
type-in_parts : (frame addresses ether_type rest : List ℕ) → frame ≡ addresses ++ (ether_type ++ rest)
    → length addresses ≡ 12 → length ether_type ≡ 2 → word_at 12 frame ≡ word_at 0 ether_type
type-in_parts frame addresses ether_type rest parts two size =
    grind (arith, number-past 2 addresses (ether_type ++ rest) 0 12 (omega arith), number-within Big 2 0 ether_type rest (omega arith))

-- the two cases share their parts
pub StandsIn-from_carries : (type : ℕ) (IsHeader : List ℕ → ℕ → Type 0) (frame payload : List ℕ)
    (k : CarriesAfter type IsHeader frame payload) → (word_at 12 frame ≡ type) × StandsIn frame k.header k.datagram
StandsIn-from_carries type IsHeader frame payload k = grind (
  arith,
  type-in_parts frame k.addresses k.ether_type,
  StandsIn-from_parts frame (k.addresses ++ k.ether_type) k.header k.datagram k.padding,
  length-append,
  append_assoc,
)

-- a header of that size, with that count of data after it, carries the payload that the data gives
carries_after : (type : ℕ) (IsHeader : List ℕ → ℕ → Type 0) (frame : List ℕ) (size count : ℕ)
    → word_at 12 frame ≡ type → 14 + size + count ≤ length frame
    → ((header datagram : List ℕ) → StandsIn frame header datagram → length header ≡ size → IsHeader header count)
    → PassesUdp (take count (drop (14 + size) frame)) → CarriesAfter type IsHeader frame (udp_payload (take count (drop (14 + size) frame)))
carries_after type IsHeader frame size count is_type whole is_header passes =
    let addresses = take 12 frame in
    let ether_type = take 2 (drop 12 frame) in
    let header = take size (drop 14 frame) in
    let after = drop (14 + size) frame in
    let datagram = take count after in
    let packet = header ++ (datagram ++ drop count after) in
    let header_cut : header ++ drop size (drop 14 frame) ≡ drop 14 frame = take-append-drop size (drop 14 frame) in
    let type_cut : ether_type ++ drop 2 (drop 12 frame) ≡ drop 12 frame = take-append-drop 2 (drop 12 frame) in
    let parts : frame ≡ addresses ++ (ether_type ++ packet) = grind (
      arith,
      take-append-drop 12 frame,
      take-append-drop count after,
      header_cut,
      type_cut,
      drop-drop size 14 frame,
      drop-drop 2 12 frame,
    ) in
    let two : length addresses ≡ 12 = length-take-le 12 frame (omega arith) in
    let type_size : length ether_type ≡ 2 = length-take-le 2 (drop 12 frame) (omega (arith, length-drop 12 frame)) in
    let header_size : length header ≡ size = length-take-le size (drop 14 frame) (omega (arith, length-drop 14 frame)) in
    let counted : length datagram ≡ count = length-take-le count after (omega (arith, length-drop (14 + size) frame)) in
    let stands = StandsIn-from_parts frame (addresses ++ ether_type) header datagram (drop count after)
    (parts ∙ sym (append_assoc addresses ether_type packet)) (omega (arith, length-append addresses ether_type)) in
    record {
      addresses = addresses;
      ether_type = ether_type;
      header = header;
      datagram = datagram;
      padding = drop count after;
      parts = parts;
      two_addresses = two;
      type_size = type_size;
      is_type = sym (type-in_parts frame addresses ether_type packet parts two type_size) ∙ is_type;
      ip = subst (λ (n : ℕ). IsHeader header n) (sym counted) (is_header header datagram stands header_size);
      udp = udp_datagram datagram passes;
    }

-- THE IPV4 HEADER

ipv4_passes : (frame header datagram : List ℕ) → StandsIn frame header datagram
    → IsIpv4Header header (length datagram) → PassesIpv4 frame × (ipv4_data frame ≡ datagram)
unfolding ipv4_data
ipv4_passes frame header datagram stands is = grind (
  arith,
  stands.byte 0 14 refl,
  stands.byte 9 23 refl,
  stands.number 2 2 16 refl,
  stands.number 2 6 20 refl,
  stands.number 4 16 30 refl,
)

ipv4_header : (frame header datagram : List ℕ) → PassesIpv4 frame → StandsIn frame header datagram
    → length header ≡ ipv4_size frame → IsIpv4Header header (word_at 16 frame - ipv4_size frame)
ipv4_header frame header datagram passes stands size = grind (
  arith,
  stands.byte 0 14 refl,
  stands.byte 9 23 refl,
  stands.number 2 2 16 refl,
  stands.number 2 6 20 refl,
  stands.number 4 16 30 refl,
)

-- THE IPV6 HEADER

ipv6_passes : (frame header datagram : List ℕ) → StandsIn frame header datagram
    → IsIpv6Header header (length datagram) → PassesIpv6 frame × (ipv6_data frame ≡ datagram)
unfolding ipv6_data
ipv6_passes frame header datagram stands is =
    grind (arith, stands.byte 0 14 refl, stands.byte 6 20 refl, stands.number 2 4 18 refl, stands.number 16 24 38 refl)

ipv6_header : (frame header datagram : List ℕ) → PassesIpv6 frame → StandsIn frame header datagram
    → length header ≡ 40 → IsIpv6Header header (word_at 18 frame)
ipv6_header frame header datagram passes stands size =
    grind (arith, stands.byte 0 14 refl, stands.byte 6 20 refl, stands.number 2 4 18 refl, stands.number 16 24 38 refl)

-- THE FRAME

-- the checks up to the IP header, where the EtherType names it
ipv4_named : (frame : List ℕ) → 14 ≤ length frame → word_at 12 frame ≡ 0x0800
    → (first_failing (ip_checks frame) ≡ first_failing (ipv4_checks frame)) × (ip_data frame ≡ ipv4_data frame)
unfolding ip_checks ip_data
ipv4_named frame room type = grind (arith, le-leb, eq-eqb)

ipv6_named : (frame : List ℕ) → 14 ≤ length frame → word_at 12 frame ≡ 0x86DD
    → (first_failing (ip_checks frame) ≡ first_failing (ipv6_checks frame)) × (ip_data frame ≡ ipv6_data frame)
unfolding ip_checks ip_data
ipv6_named frame room type = grind (arith, le-leb, eq-eqb)

-- where the checks of the IP header pass and its data is a datagram of the payload, all pass
passes_by_layer : (frame datagram payload : List ℕ) → first_failing (ip_checks frame) ≡ None
    → ip_data frame ≡ datagram → IsUdpDatagram datagram payload
    → (cause_of frame ≡ None) × (udp_payload (ip_data frame) ≡ payload)
passes_by_layer frame datagram payload ip data_is is =
    grind (arith, udp_passes datagram payload is, cause_by_layer frame, none_from_PassesUdp)

-- what carries a payload passes all checks, and they give that payload
pub passes_from_carries : (frame payload : List ℕ) → FrameCarries frame payload
    → (cause_of frame ≡ None) × (udp_payload (ip_data frame) ≡ payload)
passes_from_carries frame payload (in_ipv4 k) =
    let parts = StandsIn-from_carries 0x0800 IsIpv4Header frame payload k in
    let header = ipv4_passes frame k.header k.datagram parts.1 k.ip in
    let named = ipv4_named frame (omega (arith, header.0.room)) parts.0 in
    passes_by_layer frame k.datagram payload (named.0 ∙ none_from_PassesIpv4 frame header.0) (named.1 ∙ header.1) k.udp
passes_from_carries frame payload (in_ipv6 k) =
    let parts = StandsIn-from_carries 0x86DD IsIpv6Header frame payload k in
    let header = ipv6_passes frame k.header k.datagram parts.1 k.ip in
    let named = ipv6_named frame (omega (arith, header.0.room)) parts.0 in
    passes_by_layer frame k.datagram payload (named.0 ∙ none_from_PassesIpv6 frame header.0) (named.1 ∙ header.1) k.udp

-- what passes all checks carries the payload that they give
pub carries_from_none : (frame : List ℕ) → cause_of frame ≡ None → FrameCarries frame (udp_payload (ip_data frame))
unfolding cause_of ip_checks ip_data ipv4_data ipv6_data
carries_from_none frame none =
    let both = both_passed (ip_checks frame) (udp_checks (ip_data frame)) none in
    by (word_at 12 frame == 0x0800) (word_at 12 frame == 0x86DD) refl refl (passed _ _ _ both.0).1
    (PassesUdp-from_none (ip_data frame) both.1)
  where
    by : (ipv4 ipv6 : Bool) → (word_at 12 frame == 0x0800) ≡ ipv4 → (word_at 12 frame == 0x86DD) ≡ ipv6
        → first_failing (cond ipv4 (ipv4_checks frame)
        (cond ipv6 (ipv6_checks frame) ((false, other_type_cause (word_at 12 frame)) ∷ []))) ≡ None
        → PassesUdp (cond ipv4 (ipv4_data frame) (ipv6_data frame))
        → FrameCarries frame (udp_payload (cond ipv4 (ipv4_data frame) (ipv6_data frame)))
    by true _ type _ ip udp =
        let passes = PassesIpv4-from_none frame ip in
        in_ipv4 (carries_after 0x0800 IsIpv4Header frame (ipv4_size frame) (word_at 16 frame - ipv4_size frame)
        (eqb-true _ _ type) (omega (arith, passes.whole, passes.total))
        (λ header datagram stands size. ipv4_header frame header datagram passes stands size) udp)
    by false true _ type ip udp =
        let passes = PassesIpv6-from_none frame ip in
        in_ipv6 (carries_after 0x86DD IsIpv6Header frame 40 (word_at 18 frame) (eqb-true _ _ type) (omega (arith, passes.whole))
        (λ header datagram stands size. ipv6_header frame header datagram passes stands size) udp)
    by false false _ _ ip udp = absurd (cc)

-- THE ANSWER

-- what the checks say of the answer
abbrev PayloadAnswers : List ℕ → Result (Bor (List ℕ)) Cause → Type 0
PayloadAnswers frame answer = MatchResult answer
    (λ payload. (cause_of frame ≡ None) × (payload.now ≡ udp_payload (ip_data frame)))
    (λ cause. cause_of frame ≡ Some cause)

carried_if_checked : (frame payload : List ℕ) → cause_of frame ≡ None → payload ≡ udp_payload (ip_data frame)
    → FrameCarries frame payload
carried_if_checked frame payload none is = subst (λ (bytes : List ℕ). FrameCarries frame bytes) (sym is) (carries_from_none frame none)

checked_if_carried : (frame payload given : List ℕ) → given ≡ udp_payload (ip_data frame) → FrameCarries frame payload
    → given ≡ payload
checked_if_carried frame payload given is carries = is ∙ (passes_from_carries frame payload carries).1

carried_not_failed : (frame payload : List ℕ) (cause : Cause) → FrameCarries frame payload
    → cause_of frame ≡ Some cause → ⊥
carried_not_failed frame payload cause carries some = let none = (passes_from_carries frame payload carries).0 in absurd (cc)

-- what a reading of the payload answers
pub given_carried : (frame : List ℕ) (answer : Result (Bor (List ℕ)) Cause) → PayloadAnswers frame answer
    → IfOk answer (λ payload. FrameCarries frame payload.now)
given_carried frame (Ok payload) given = carried_if_checked frame payload.now given.0 given.1
given_carried frame (Err cause) given = tt

pub given_found : (frame : List ℕ) (answer : Result (Bor (List ℕ)) Cause) → PayloadAnswers frame answer
    → (payload : List ℕ) → FrameCarries frame payload → IsOkAnd answer (λ given. given.now ≡ payload)
given_found frame (Ok given) is payload carries = checked_if_carried frame payload given.now is.1 carries
given_found frame (Err cause) failed payload carries = carried_not_failed frame payload cause carries failed

-- a check has a kind
pub skip_from_cause : (frame : List ℕ) (cause : Cause) → cause_of frame ≡ Some cause
    → skip_of frame ≡ Some (skip_of_cause cause)
unfolding skip_of
skip_from_cause frame cause some = ap (λ (first : Option Cause). option_map skip_of_cause first) some

-- THE LAWS

pub payload_unique : (frame first second : List ℕ) → FrameCarries frame first → FrameCarries frame second → first ≡ second
payload_unique frame first second a b = sym (passes_from_carries frame first a).1 ∙ (passes_from_carries frame second b).1

pub payload_or_skip_by : (frame : List ℕ)
    → ((payload : List ℕ) × FrameCarries frame payload) ⊎ ((skip : Skip) × (skip_of frame ≡ Some skip))
payload_or_skip_by frame = by (cause_of frame) refl
  where
    by : (cause : Option Cause) → cause_of frame ≡ cause
        → ((payload : List ℕ) × FrameCarries frame payload) ⊎ ((skip : Skip) × (skip_of frame ≡ Some skip))
    by None none = inl (udp_payload (ip_data frame), carries_from_none frame none)
    by (Some cause) some = inr (skip_of_cause cause, skip_from_cause frame cause some)

pub payload_not_skipped : (frame payload : List ℕ) (skip : Skip) → FrameCarries frame payload → skip_of frame ≡ Some skip → ⊥
unfolding skip_of
payload_not_skipped frame payload skip carries some =
    let none = ap (λ (first : Option Cause). option_map skip_of_cause first) (passes_from_carries frame payload carries).0 in absurd (cc)
