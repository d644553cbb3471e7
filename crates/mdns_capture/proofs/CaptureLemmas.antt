-- Lemmas on the state of a capture that is being read.
use Rattle.std.proofs.{lemmas.Grind.{common_steps}, KnownBytes.{Consumes-nil}}
use Rattle.std.proofs.lemmas.List.{length-append, length-take, length-take-le, take-append-le, take-take}
use Rattle.std.proofs.{lemmas.Bool.Decides.{nat_tests}, Common.{◌≡◌, ◌≢◌, ◌↔◌, ℕ}}
use Rattle.std.proofs.Common.{◌+◌, ◌<◌, ◌≤◌, Bool, IsTrue, List, [], ◌∷◌, ◌++◌, Option, Some, None, IfSome, Result}
use Rattle.std.proofs.Common.{Ok, Err, OnOk, OnErr, arith, eq-eqb, length, take, refl, sym, ap, ◌∙◌, subst, append_assoc}
use Rattle.std.specs.Io.KnownBytes.{Consumes}
use Rattle.mdns_capture.specs.declared.savefile.{Format.{Format}, PacketHeader.{PacketHeader}}
use Rattle.mdns_capture.specs.declared.savefile.{PacketOrEnd.TheVariants.{Packet as PacketStep}, Ending.{Ending}}
use Rattle.mdns_capture.specs.declared.capture.ReadFault.{ReadFault}
use Rattle.mdns_capture.specs.declared.savefile.Ending.TheVariants.{Going, Whole, Cut, Fraction, Long, Many, Failed}
use Rattle.mdns_capture.specs.{Stream.{TakesAtMost, OneMoreFailed}, Savefile.{PacketAt, snap_length, snap_length_of, stop_of, IsFileHeader}}
use Rattle.mdns_capture.specs.{Savefile.{IsPacketHeader, PacketsRead, CaptureReads}, Capture.{Shown, Standing, IsOver, IsDamaged, IsShown}}
use Rattle.mdns_capture.specs.Capture.{shown as shown_of, IsPacketOrEnd, Goes, Leads, Begins, Moves, Advances}
use Rattle.mdns_capture.proofs.{HeaderLemmas.{header_fault-append}, FramePartLemmas.{number-within}}
use Rattle.mdns_capture.proofs.OneReadingLemmas.{same_header, format_fault-header}

begun_reads : (format : Format) (header : List ℕ) (left rest : Option (List ℕ)) → IsFileHeader format header → Consumes left rest header
    → IfSome left (λ bytes. (packets : List PacketAt) (ending : Ending)
    → (IfSome rest (λ more. PacketsRead format 0 24 more packets ending) ↔ CaptureReads bytes packets ending))
begun_reads format header None rest heads takes = tt
begun_reads format header (Some bytes) None heads takes = absurd takes
begun_reads format header (Some bytes) (Some more) heads takes = λ packets ending. grind (arith, same_header)

snap_length-begins : (format : Format) (header rest bytes : List ℕ) → IsFileHeader format header
    → bytes ≡ header ++ rest → snap_length bytes ≡ snap_length_of format header
snap_length-begins format header rest bytes heads whole = grind (arith, number-within)

not_going : (ending : Ending) → IsOver ending → ending ≢ Going
not_going ending over e = let P : Ending → Type 0 = IsOver in subst P e over

not_failed : (ending : Ending) → IsOver ending → ending ≢ Failed
not_failed ending over e = let P : Ending → Type 0 = IsOver in subst P e over

-- the front of a buffer that was written whole
pub front_of : (written rest : List ℕ) (room n : ℕ) → n ≤ room → n ≤ length written → take n (take room (written ++ rest)) ≡ take n written
front_of written rest room n fits in_it = take-take n room (written ++ rest) fits ∙ take-append-le n written rest in_it

none_shown : (packet : Option PacketAt) (shown : Option Shown) → shown ≡ None → IsShown packet shown → packet ≡ None
none_shown None shown e shows = refl
none_shown (Some packet) shown e shows = let P : Option Shown → Type 0 = IsShown (Some packet) in absurd (subst P e shows)

-- a capture that has ended goes on to no packet and to its ending
ended_goes : (format : Format) (count offset : ℕ) (bytes : List ℕ) (ending : Ending) → IsOver ending
    → Goes format count offset bytes [] ending ending
unfolding Goes
ended_goes format count offset bytes Going over = absurd over
ended_goes format count offset bytes Whole over = (refl, refl)
ended_goes format count offset bytes (Cut at) over = (refl, refl)
ended_goes format count offset bytes (Fraction at) over = (refl, refl)
ended_goes format count offset bytes (Long at) over = (refl, refl)
ended_goes format count offset bytes (Many at) over = (refl, refl)
ended_goes format count offset bytes Failed over = absurd over

full_goes : (format : Format) (count offset : ℕ) (bytes : List ℕ) → count ≡ 4294967295
    → Goes format count offset bytes [] (Many offset) Going
unfolding Goes
full_goes format count offset bytes last = rw (eq-eqb count 4294967295 last) refl

stop_goes : (format : Format) (count offset : ℕ) (bytes : List ℕ) (ending : Ending) → count < 4294967295
    → stop_of format offset bytes ≡ Some ending → Goes format count offset bytes [] ending Going
unfolding Goes
stop_goes format count offset bytes ending few stops = grind (arith, nat_tests)

packet_goes : (format : Format) (count offset : ℕ) (bytes rest header : List ℕ) (packet : PacketAt)
    → count < 4294967295 → IsPacketHeader format header packet.moment.nanos (length packet.frame)
    → packet.at ≡ offset → bytes ≡ (header ++ packet.frame) ++ rest → (packets : List PacketAt) (ending : Ending)
    → Goes format (count + 1) (offset + (16 + length packet.frame)) rest packets ending Going
    → Goes format count offset bytes (packet ∷ packets) ending Going
unfolding Goes
packet_goes format count offset bytes rest header packet few heads at whole packets ending goes =
    grind (arith, append_assoc header packet.frame rest)

module _ {R : Type 0} where
  -- a reading begins after a file header
  pub Begins-begun : (left : Option (List ℕ)) (steady : Bool) (failures : Option ℕ) (header : List ℕ) (new : Standing R)
      → IsFileHeader new.format header → new.snap ≡ snap_length_of new.format header → Consumes left new.left header
      → (IsTrue steady → IsTrue new.steady) → new.failures ≡ failures
      → new.ending ≡ Going → new.count ≡ 0 → new.offset ≡ 24 → Begins left steady failures new
  unfolding Leads Goes
  Begins-begun left steady failures header new heads states takes steadily unfailed going none_yet offset = record {
    header = header;
    takes = takes;
    heads = heads;
    steadily = steadily;
    unfailed = unfailed;
    going = going;
    none_yet = none_yet;
    offset = offset;
    reads = rw (going, none_yet, offset) (begun_reads new.format header left new.left heads takes);
    sound = grind (arith, header_fault-append, format_fault-header);
    states = grind (arith, snap_length-begins);
  }

  -- an answer with no read
  pub Advances-answered : (old new : Standing R) (answer : Result (Unit {0}) ReadFault)
      → new.reader ≡ old.reader → new.left ≡ old.left → new.steady ≡ old.steady → new.failures ≡ old.failures
      → new.snap ≡ old.snap → new.ending ≡ old.ending → new.current ≡ None
      → OnOk answer (IsOver old.ending) × OnErr answer (old.ending ≡ Failed)
      → Advances old answer new
  unfolding Leads
  Advances-answered old new (Ok _) reader left steady failures snap ending current why =
      grind (arith, common_steps, ended_goes, not_going, not_failed, none_shown, Consumes-nil)
  Advances-answered old new (Err fault) reader left steady failures snap ending current why =
      grind (arith, common_steps, not_failed, Consumes-nil)

  -- after the last packet that is read
  pub Moves-full : (old new : Standing R) (packet : Option PacketAt) → old.ending ≡ Going
      → (old.count ≡ 4294967295) × (new.ending ≡ Many old.offset)
      → new.reader ≡ old.reader → new.left ≡ old.left → new.steady ≡ old.steady → new.failures ≡ old.failures
      → new.snap ≡ old.snap → new.current ≡ None → IsShown packet new.current → Moves old (Ok packet) new
  unfolding Leads
  Moves-full old new packet going last reader left steady failures snap current shows =
      grind (arith, common_steps, full_goes, Consumes-nil, none_shown)

  -- where no packet begins
  pub Moves-stop : (old new : Standing R) (packet : Option PacketAt) (stop : Ending) → old.ending ≡ Going → new.ending ≡ stop
      → old.count < 4294967295 → IsOver stop × IfSome old.left (λ bytes. stop_of old.format old.offset bytes ≡ Some stop)
      → (IsDamaged stop → TakesAtMost old.left new.left 16) → TakesAtMost old.left new.left 262160
      → (IsTrue old.steady → IsTrue new.steady) → new.failures ≡ old.failures
      → new.snap ≡ old.snap → new.current ≡ None → IsShown packet new.current → Moves old (Ok packet) new
  unfolding Leads
  Moves-stop old new packet stop going ends few stops damaged takes steadily unfailed snap current shows =
      grind (arith, common_steps, stop_goes, none_shown)

  -- a packet
  pub Moves-packet : (old new : Standing R) (packet : Option PacketAt) (head : PacketHeader) (buffer shown : List ℕ)
      → old.ending ≡ Going → new.ending ≡ Going → old.count < 4294967295
      → IsPacketOrEnd old.format old.offset old.left new.left buffer (PacketStep head)
      → take head.captured shown ≡ take head.captured buffer → head.captured ≤ length shown
      → new.format ≡ old.format → new.count ≡ old.count + 1 → new.offset ≡ old.offset + (16 + head.captured)
      → new.current ≡ Some (shown_of old.offset shown head) → TakesAtMost old.left new.left 262160
      → (IsTrue old.steady → IsTrue new.steady) → new.failures ≡ old.failures → new.snap ≡ old.snap
      → IsShown packet new.current → Moves old (Ok packet) new
  unfolding Leads
  Moves-packet old new None head buffer shown going goes_on few steps same room format count offset current most
      steadily unfailed snap shows =
      absurd (rw current at shows)
  Moves-packet old new (Some packet) head buffer shown going goes_on few steps same room format count offset current most
      steadily unfailed snap shows =
      let is = rw current at shows in
      let size = length-take-le head.captured shown room in
      let length_is : head.captured ≡ length packet.frame = sym size ∙ ap length (sym is.2) in
      grind (arith, common_steps, packet_goes)

  -- a read that failed
  pub Moves-fault : (old new : Standing R) (fault : ReadFault) → old.ending ≡ Going → new.ending ≡ Failed → old.count < 4294967295
      → TakesAtMost old.left new.left 262160 → (IsTrue old.steady → IsTrue new.steady) → ¬ (IsTrue old.steady)
      → OneMoreFailed old.failures new.failures → new.snap ≡ old.snap → Moves old (Err fault) new
  Moves-fault old new fault going fails few takes steadily unsteady failed snap = grind (arith)

pub ruleset for_advance = (
  Advances-answered,
  Moves-full,
  Moves-stop,
  Moves-packet,
  Moves-fault,
  front_of,
  length-take,
  length-append,
)
