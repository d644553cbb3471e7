-- A capture reads in two parts, cut after some of its packets.
use Rattle.std.proofs.Common.{◌≡◌, ◌≢◌, ◌≤◌, ℕ, ◌+◌, Bool, true, false, cond, eqb, List, [], ◌∷◌, ◌++◌}
use Rattle.std.proofs.Common.{length, drop, take, map, Option, Some, None, refl, ap, ◌∙◌, arith, append_assoc}
use Rattle.std.specs.Option.{option_map, option_or}
use Rattle.std.proofs.lemmas.{Bool.{cond-false, ne_eqb, eq-eqb, cond-true}, List.{length-append, take_at, drop_at}}
use Rattle.mdns_capture.specs.declared.{savefile.Format.{Format}, moment.Moment.{Moment}, savefile.Ending.{Ending}}
use Rattle.mdns_capture.specs.declared.savefile.Ending.TheVariants.{Whole, Cut, Fraction, Long, Many}
use Rattle.mdns_capture.specs.Savefile.{PacketAt, CaptureReads, PacketsRead, ending_of, stop_of}
use Rattle.mdns_capture.specs.Cut.{offset_after, moved_to, ending_at, content_of, part_before, part_from}

abbrev NotMany : Ending → Type 0
NotMany ending = (at : ℕ) → ending ≢ Many at

-- THE ENDING

-- the checks of a packet header, by what each finds
abbrev stop : (none short fraction long cut : Bool) → ℕ → Option Ending
stop none short fraction long cut at =
    cond none (Some Whole) (cond short (Some (Cut at))
    (option_or (cond fraction (Some (Fraction at)) (cond long (Some (Long at)) None))
    (cond cut (Some (Cut at)) None)))

stop_same : (none short fraction long cut : Bool) (at other : ℕ)
    → stop none short fraction long cut other ≡ option_map (ending_at other) (stop none short fraction long cut at)
stop_same true short fraction long cut at other = refl
stop_same false true fraction long cut at other = refl
stop_same false false true long cut at other = refl
stop_same false false false true cut at other = refl
stop_same false false false false true at other = refl
stop_same false false false false false at other = refl

stop_of-moved : (format : Format) (at other : ℕ) (bytes : List ℕ)
    → stop_of format other bytes ≡ option_map (ending_at other) (stop_of format at bytes)
stop_of-moved format at other bytes = grind (arith, stop_same)

-- after fewer packets than the greatest number the ending is that of the checks
ending_few : (format : Format) (count at : ℕ) (bytes : List ℕ) → count ≢ 4294967295
    → ending_of format count at bytes ≡ stop_of format at bytes
ending_few format count at bytes few = cond-false (eqb count 4294967295) (Some (Many at)) (stop_of format at bytes)
    (ne_eqb count 4294967295 few)

ending_full : (format : Format) (count at : ℕ) (bytes : List ℕ) → count ≡ 4294967295 → ending_of format count at bytes ≡ Some (Many at)
ending_full format count at bytes full = cond-true (eqb count 4294967295) (Some (Many at)) (stop_of format at bytes)
    (eq-eqb count 4294967295 full)

-- where more packets follow or the ending isn't `Many`, there are fewer than the greatest number
not_full : (format : Format) (count at : ℕ) (bytes : List ℕ) (packets : List PacketAt) (ending : Ending)
    → NotMany ending → PacketsRead format count at bytes packets ending → count ≢ 4294967295
not_full format count at bytes [] ending not_many reads full = grind (arith, ending_full)
not_full format count at bytes (packet ∷ packets) ending not_many reads full = let less = reads.0 in absurd (omega arith)

-- THE SECOND PART

moved : (format : Format) (count fewer at other : ℕ) (bytes : List ℕ) (packets : List PacketAt) (ending : Ending)
    → fewer ≤ count → count ≤ 4294967295 → NotMany ending
    → PacketsRead format count at bytes packets ending
    → PacketsRead format fewer other bytes (moved_to other packets) (ending_at (offset_after other packets) ending)
moved format count fewer at other bytes [] ending h few not_many reads = grind (arith, not_full, ending_few, stop_of-moved)
moved format count fewer at other bytes (packet ∷ packets) ending h few not_many reads =
    let less = reads.0 in
    let begins = reads.1.1 in (
      omega arith,
      (
        reads.1.0,
        record { header = begins.header; heads = begins.heads; offset = refl; whole = begins.whole },
        moved format (count + 1) (fewer + 1) (at + (16 + length packet.frame)) (other + (16 + length packet.frame))
            reads.1.0 packets ending (omega arith) (omega arith) not_many reads.1.2,
      ),
    )

-- THE CUT

-- the bytes of the first packets, and those after them
record Halves (format : Format) (count at : ℕ) (bytes : List ℕ) (front back : List PacketAt) (ending : Ending) : Type 0 where
  pub taken : List ℕ
  pub rest : List ℕ
  pub so_far : ℕ
  pub whole : bytes ≡ taken ++ rest
  pub size : at + length taken ≡ offset_after at front
  pub first : PacketsRead format count at taken front Whole
  pub few : so_far ≤ 4294967295
  pub second : PacketsRead format so_far (offset_after at front) rest back ending

halves : (format : Format) (count at : ℕ) (bytes : List ℕ) (front back : List PacketAt) (ending : Ending)
    → count ≤ 4294967295 → NotMany ending
    → PacketsRead format count at bytes (front ++ back) ending → Halves format count at bytes front back ending
halves format count at bytes [] back ending few not_many reads = record {
  taken = [];
  rest = bytes;
  so_far = count;
  whole = refl;
  size = omega arith;
  first = ending_few format count at [] (not_full format count at bytes back ending not_many reads);
  few = few;
  second = reads;
}
halves format count at bytes (packet ∷ front) back ending few not_many reads =
    let begins = reads.1.1 in
    let more = halves format (count + 1) (at + (16 + length packet.frame)) reads.1.0 front back ending
    (omega (arith, reads.0)) not_many reads.1.2 in
    record {
      taken = begins.header ++ (packet.frame ++ more.taken);
      rest = more.rest;
      so_far = more.so_far;
      whole = grind (arith, append_assoc, begins.whole, more.whole);
      size = omega (
        arith,
        more.size,
        begins.heads.size,
        length-append begins.header (packet.frame ++ more.taken),
        length-append packet.frame more.taken,
      );
      first = (
        reads.0,
        (more.taken, record { header = begins.header; heads = begins.heads; offset = begins.offset; whole = refl }, more.first),
      );
      few = more.few;
      second = more.second;
    }

-- a capture of the first packets and the others: the size of the first part, the bytes before the cut and those after it
module _ (bytes : List ℕ) (front back : List PacketAt) (ending : Ending) (reads : CaptureReads bytes (front ++ back) ending)
    (not_many : NotMany ending) where
  inside : Halves reads.format 0 24 reads.rest front back ending
  inside = halves reads.format 0 24 reads.rest front back ending (omega arith) not_many reads.reads

  taken_size : length (reads.header ++ inside.taken) ≡ offset_after 24 front
  taken_size = grind (arith, inside.size, reads.heads.size, length-append)

  parts : bytes ≡ (reads.header ++ inside.taken) ++ inside.rest
  parts = grind (arith, reads.whole, inside.whole, append_assoc)

pub first_part_reads : (bytes : List ℕ) (front back : List PacketAt) (ending : Ending)
    → CaptureReads bytes (front ++ back) ending → NotMany ending
    → CaptureReads (part_before (offset_after 24 front) bytes) front Whole
first_part_reads bytes front back ending reads not_many =
    let first = inside bytes front back ending reads not_many in
    let size = taken_size bytes front back ending reads not_many in
    record {
      format = reads.format;
      header = reads.header;
      rest = first.taken;
      heads = reads.heads;
      whole = ap (take (offset_after 24 front)) (parts bytes front back ending reads not_many)
          ∙ take_at (reads.header ++ first.taken) first.rest (offset_after 24 front) size;
      reads = first.first;
    }

pub second_part_reads : (bytes : List ℕ) (front back : List PacketAt) (ending : Ending)
    → CaptureReads bytes (front ++ back) ending → NotMany ending
    → CaptureReads (part_from (offset_after 24 front) bytes) (moved_to 24 back) (ending_at (offset_after 24 back) ending)
second_part_reads bytes front back ending reads not_many =
    let first = inside bytes front back ending reads not_many in
    let size = taken_size bytes front back ending reads not_many in
    let head : take 24 bytes ≡ reads.header = ap (take 24) reads.whole ∙ take_at reads.header reads.rest 24 reads.heads.size in
    let after : drop (offset_after 24 front) bytes ≡ first.rest =
    ap (drop (offset_after 24 front)) (parts bytes front back ending reads not_many)
    ∙ drop_at (reads.header ++ first.taken) first.rest (offset_after 24 front) size in
    record {
      format = reads.format;
      header = reads.header;
      rest = first.rest;
      heads = reads.heads;
      whole = rw (head, after) refl;
      reads = moved reads.format first.so_far 0 (offset_after 24 front) 24 first.rest back ending
          (omega arith) first.few not_many first.second;
    }

-- PLACES AND CONTENTS

offsets : (format : Format) (count at : ℕ) (bytes : List ℕ) (front back : List PacketAt) (packet : PacketAt) (ending : Ending)
    → PacketsRead format count at bytes (front ++ packet ∷ back) ending → packet.at ≡ offset_after at front
offsets format count at bytes [] back packet ending reads = reads.1.1.offset
offsets format count at bytes (other ∷ front) back packet ending reads =
    offsets format (count + 1) (at + (16 + length other.frame)) reads.1.0 front back packet ending reads.1.2

pub offset_of_packet : (bytes : List ℕ) (front back : List PacketAt) (packet : PacketAt) (ending : Ending)
    → CaptureReads bytes (front ++ packet ∷ back) ending → packet.at ≡ offset_after 24 front
offset_of_packet bytes front back packet ending reads = offsets reads.format 0 24 reads.rest front back packet ending reads.reads

pub same_contents : (offset : ℕ) (packets : List PacketAt) → map content_of (moved_to offset packets) ≡ map content_of packets
same_contents offset [] = refl
same_contents offset (packet ∷ packets) =
    ap (λ (contents : List (Moment × List ℕ)). content_of packet ∷ contents) (same_contents (offset + (16 + length packet.frame)) packets)

pub ruleset for_cut_at_a_packet_header = (first_part_reads, second_part_reads, same_contents)
