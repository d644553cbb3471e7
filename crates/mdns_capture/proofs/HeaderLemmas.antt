-- What the first bytes of a file decide about the whole file, and what a step of the reading found.
use Rattle.std.proofs.Common.{◌≡◌, ◌⊎◌, inl, inr, ℕ, ◌<◌, ◌≤◌, Bool, true, false, cond, ltb, List, [], ◌++◌}
use Rattle.std.proofs.Common.{Option, Some, None, IfSome, Result, Ok, Err, IfErr, arith, length, take, refl, ap, ◌∙◌, subst}
use Rattle.std.proofs.{Common.{length-append, le-ltb, lt-ltb}, KnownBytes.{Consumes-trans}, lemmas.Bool.{cases_lt, ltb-true, ltb-false}}
use Rattle.std.proofs.lemmas.{List.{append-nil, length-take, length-take-le, take-append-le, take_all}, Bool.Decides.{nat_tests}}
use Rattle.std.specs.{Option.{option_or}, Io.KnownBytes.{Consumes, IsAtEnd}}
use Rattle.mdns_capture.specs.declared.savefile.{Endianness.TheVariants.{Big}, Format.{Format}, FileHeader.{FileHeader}, Ending.{Ending}}
use Rattle.mdns_capture.specs.declared.savefile.{Ending.TheVariants.{Cut}, BeginFault.{BeginFault}, BeginFault.TheVariants.{Memory, Read}}
use Rattle.mdns_capture.specs.declared.savefile.{BeginFault.TheVariants.{ShortHeader, Magic, Version, Link}, PacketHeader.{PacketHeader}}
use Rattle.mdns_capture.specs.declared.savefile.{PacketOrEnd.{PacketOrEnd}, PacketOrEnd.TheVariants.{Packet, End}}
use Rattle.mdns_capture.specs.{Capture.{HasFault, IsDamagedStep, IsPacketOrEnd, packet_by}, Stream.{TakesAtMost}, Savefile.{number_at}}
use Rattle.mdns_capture.specs.Savefile.{captured_of, format_of, format_fault, header_fault, head_stop, header_stop, stop_of, IsPacketHeader}
use Rattle.mdns_capture.proofs.FramePartLemmas.{number-within}

-- the fault of a text is that of its first 24 bytes
format_fault-append : (header rest : List ℕ) (format : Option Format) → length header ≡ 24
    → format_fault (header ++ rest) format ≡ format_fault header format
format_fault-append header rest None size = refl
format_fault-append header rest (Some format) size = grind (arith, number-within)

pub header_fault-append : (header rest : List ℕ) → length header ≡ 24
    → header_fault (header ++ rest) ≡ format_fault header (format_of (number_at Big 4 0 header))
header_fault-append header rest size = grind (arith, le-ltb, length-append, number-within, format_fault-append)

-- what the reading of a text finds is what it finds of the first 16 bytes, and then of the body
pub stop_of-append : (format : Format) (at : ℕ) (header rest : List ℕ) → length header ≡ 16
    → stop_of format at (header ++ rest) ≡ option_or (head_stop format at header)
    (cond (ltb (length rest) (captured_of format header)) (Some (Cut at)) None)
stop_of-append format at header rest size = grind (arith, nat_tests, length-append, le-ltb, number-within)

stop_of-head : (format : Format) (at n : ℕ) (old mid : Option (List ℕ)) (header : List ℕ) (ending : Ending) → length header ≡ 16 → 16 ≤ n
    → Consumes old mid (take n header) → head_stop format at header ≡ Some ending
    → IfSome old (λ bytes. stop_of format at bytes ≡ Some ending)
stop_of-head format at n None mid header ending size all takes stop = tt
stop_of-head format at n (Some bytes) None header ending size all takes stop = absurd takes
stop_of-head format at n (Some bytes) (Some rest) header ending size all takes stop = grind (arith, take_all, stop_of-append)

-- of the bytes that came of a packet header, all or up to the end
stop_of-short : (format : Format) (at : ℕ) (bytes : List ℕ) → length bytes < 16 → stop_of format at bytes ≡ header_stop format at bytes
stop_of-short format at bytes short = rw (lt-ltb _ _ short) refl

header_stop-whole : (format : Format) (at : ℕ) (header : List ℕ) → length header ≡ 16
    → header_stop format at header ≡ head_stop format at header
header_stop-whole format at header size = grind (arith, nat_tests, le-ltb)

stop_came : (format : Format) (at n : ℕ) (bytes rest header : List ℕ) (ending : Ending) → (n < 16) ⊎ (16 ≤ n) → length header ≡ 16
    → bytes ≡ take n header ++ rest → (n < 16 → rest ≡ []) → header_stop format at (take n header) ≡ Some ending
    → stop_of format at bytes ≡ Some ending
stop_came format at n bytes rest header ending (inl short) size whole end stop = grind (arith, length-take, append-nil, stop_of-short)
stop_came format at n bytes rest header ending (inr all) size whole end stop =
    grind (arith, stop_of-head format at n (Some bytes) (Some rest) header ending size all whole, take_all, header_stop-whole, header_stop)

-- a packet header's check failed
pub IfSome-stop_came : (format : Format) (at n : ℕ) (old mid : Option (List ℕ)) (header : List ℕ) (ending : Ending) → length header ≡ 16
    → Consumes old mid (take n header) → (n < length header → IsAtEnd mid)
    → header_stop format at (take n header) ≡ Some ending
    → IfSome old (λ bytes. stop_of format at bytes ≡ Some ending)
IfSome-stop_came format at n None mid header ending size takes end stop = tt
IfSome-stop_came format at n (Some bytes) None header ending size takes end stop = absurd takes
IfSome-stop_came format at n (Some bytes) (Some rest) header ending size takes end stop =
    stop_came format at n bytes rest header ending (cases_lt n 16) size takes (λ short. end (omega arith)) stop

-- a body is cut short
stop_of-body : (format : Format) (at m moment captured : ℕ) (old mid new : Option (List ℕ)) (header body : List ℕ)
    → IsPacketHeader format header moment captured → Consumes old mid header → Consumes mid new (take m body) → IsAtEnd new
    → m < captured → m ≤ length body → IfSome old (λ bytes. stop_of format at bytes ≡ Some (Cut at))
stop_of-body format at m moment captured None mid new header body heads takes more end few fits = tt
stop_of-body format at m moment captured (Some bytes) None new header body heads takes more end few fits = absurd takes
stop_of-body format at m moment captured (Some bytes) (Some rest) None header body heads takes more end few fits = absurd more
stop_of-body format at m moment captured (Some bytes) (Some rest) (Some left) header body heads takes more end few fits =
    grind (arith, length-append, length-take-le, le-ltb, lt-ltb, stop_of-append)

-- a packet by the bytes of its body that came
packet_came : (format : Format) (at m : ℕ) (old mid new : Option (List ℕ)) (header body after : List ℕ)
    (head : PacketHeader) (cut : Bool) → ltb m head.captured ≡ cut
    → IsPacketHeader format header head.moment.nanos head.captured → Consumes old mid header
    → Consumes mid new (take m body) → (m < length body → IsAtEnd new)
    → m ≤ length body → length body ≡ head.captured
    → IsPacketOrEnd format at old new (body ++ after) (cond cut (End (Cut at)) (Packet head))
packet_came format at m old mid new header body after head true short heads takes more end fits size =
    grind (arith, stop_of-body format at m head.moment.nanos head.captured old mid new header body heads takes more, ltb-true)
packet_came format at m old mid new header body after head false all heads takes more end fits size =
    grind (arith, ltb-false, take-append-le, Consumes-trans)

pub IsPacketOrEnd-came : (format : Format) (at m : ℕ) (old mid new : Option (List ℕ)) (header body after : List ℕ)
    (head : PacketHeader) (step : PacketOrEnd) → step ≡ packet_by head at m
    → IsPacketHeader format header head.moment.nanos head.captured → Consumes old mid header
    → Consumes mid new (take m body) → (m < length body → IsAtEnd new)
    → m ≤ length body → length body ≡ head.captured → IsPacketOrEnd format at old new (body ++ after) step
IsPacketOrEnd-came format at m old mid new header body after head step is heads takes more end fits size =
    rw is (packet_came format at m old mid new header body after head (ltb m head.captured) refl heads takes more end fits size)

-- the fault of a file is a fault of the reader that has these bytes left
HasFault-from : (fault : BeginFault) (old : Option (List ℕ)) → IfSome old (λ bytes. header_fault bytes ≡ Some fault) → HasFault fault old
HasFault-from Memory old h = tt
HasFault-from Read old h = tt
HasFault-from ShortHeader old h = h
HasFault-from Magic old h = h
HasFault-from Version old h = h
HasFault-from Link old h = h

-- of the bytes that came of a file header, all or up to the end
header_came : (bytes rest header : List ℕ) (n : ℕ) → (n < 24) ⊎ (24 ≤ n) → length header ≡ 24
    → bytes ≡ take n header ++ rest → (n < 24 → rest ≡ [])
    → header_fault bytes ≡ header_fault (take n header)
header_came bytes rest header n (inl short) size whole end =
    ap header_fault (whole ∙ ap (λ l. take n header ++ l) (end short) ∙ append-nil (take n header))
header_came bytes rest header n (inr all) size whole end = grind (arith, take_all, le-ltb, header_fault-append)

IfSome-came : (fault : Option BeginFault) (old new : Option (List ℕ)) (n : ℕ) (header : List ℕ) → length header ≡ 24
    → Consumes old new (take n header) → (n < 24 → IsAtEnd new) → header_fault (take n header) ≡ fault
    → IfSome old (λ bytes. header_fault bytes ≡ fault)
IfSome-came fault None new n header size takes end h = tt
IfSome-came fault (Some bytes) None n header size takes end h = absurd takes
IfSome-came fault (Some bytes) (Some rest) n header size takes end h =
    header_came bytes rest header n (cases_lt n 24) size takes end ∙ h

-- the fault of the bytes that came of a file header is that of the whole text
pub HasFault-came : (old new : Option (List ℕ)) (n : ℕ) (header : List ℕ) (found : Result FileHeader BeginFault) → length header ≡ 24
    → Consumes old new (take n header) → (n < length header → IsAtEnd new)
    → IfErr found (λ fault. header_fault (take n header) ≡ Some fault) → IfErr found (λ fault. HasFault fault old)
HasFault-came old new n header (Ok head) size takes end h = tt
HasFault-came old new n header (Err fault) size takes end h =
    HasFault-from fault old (IfSome-came (Some fault) old new n header size takes (λ short. end (omega arith)) h)

-- and it is not damaged
undamaged : (at : ℕ) (head : PacketHeader) (cut : Bool) → IsDamagedStep (cond cut (End (Cut at)) (Packet head)) → ⊥
undamaged at head true d = d
undamaged at head false d = d

pub packet_by-undamaged : (head : PacketHeader) (at m : ℕ) (step : PacketOrEnd) → step ≡ packet_by head at m → IsDamagedStep step → ⊥
packet_by-undamaged head at m step is d = undamaged at head (ltb m head.captured) (subst IsDamagedStep is d)

-- few bytes are no more than many
pub TakesAtMost-more : (old new : Option (List ℕ)) (few many : ℕ) → few ≤ many → TakesAtMost old new few → TakesAtMost old new many
TakesAtMost-more old new few many le takes = (takes.0, takes.1, omega (arith, takes.2))

-- the bytes of a header and of a body are taken
pub TakesAtMost-both : (old mid new : Option (List ℕ)) (n captured : ℕ) (header buffer : List ℕ) → length header ≡ 16
    → captured ≤ 262144 → Consumes old mid (take n header) → TakesAtMost mid new (length (take captured buffer))
    → TakesAtMost old new 262160
TakesAtMost-both old mid new n captured header buffer size few takes more = grind (arith, Consumes-trans, length-append, length-take)

pub ruleset for_read_packet = (IfSome-stop_came, IsPacketOrEnd-came, TakesAtMost-more, packet_by-undamaged, length-take-le)
