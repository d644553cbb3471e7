-- The bytes of a file have one reading.
use Rattle.std.proofs.Common.{◌≡◌, ◌==◌, ◌&&◌, ◌%◌, eqb-true, ℕ, zero, suc, ◌+◌, ◌*◌, ◌<◌, ◌≤◌, Bool, true, false}
use Rattle.std.proofs.Common.{cond, not, eqb, ltb, List, [], ◌∷◌, ◌++◌, Option, Some, None, arith, length, take, drop}
use Rattle.std.proofs.Common.{slice_index, refl, sym, ap, ◌∙◌, subst, length-append, le-ltb}
use Rattle.std.specs.Option.{option_or}
use Rattle.std.proofs.lemmas.{List.{drop_at, take_at, get_or-drop, length-take-le, length-drop, take-append-drop}, Bool.{ltb-false}}
use Rattle.std.proofs.{lemmas.Bool.Decides.{nat_tests}, Math.Bridge.{le_prop}}
use Rattle.byteorder.specs.Numbers.{big_from-lt, little_from-lt}
use Rattle.mdns_capture.specs.declared.{moment.Moment.{Moment}, savefile.Endianness.{Endianness}}
use Rattle.mdns_capture.specs.declared.savefile.Endianness.TheVariants.{Little, Big}
use Rattle.mdns_capture.specs.declared.savefile.{Format.{Format}, Ending.{Ending}}
use Rattle.mdns_capture.specs.Savefile.{PacketAt, number_at, seconds_of, fraction_of, captured_of, scale_of, format_of, format_fault}
use Rattle.mdns_capture.specs.Savefile.{header_fault, stop_of, ending_of, IsFileHeader, BeginsWith, PacketsRead, CaptureReads}
use Rattle.mdns_capture.proofs.{HeaderLemmas.{header_fault-append, stop_of-append}, FramePartLemmas.{number-within}}

-- two ways to cut a text at one offset are one
pub append_parts : (front others rest more : List ℕ) → length front ≡ length others → front ++ rest ≡ others ++ more
    → (front ≡ others) × (rest ≡ more)
append_parts front others rest more size e = (
  sym (take_at front rest (length front) refl) ∙ ap (take (length front)) e ∙ take_at others more (length front) (sym size),
  sym (drop_at front rest (length front) refl) ∙ ap (drop (length front)) e ∙ drop_at others more (length front) (sym size),
)

-- a file header has no fault
pub format_fault-header : (format : Format) (header : List ℕ) → IsFileHeader format header
    → format_fault header (format_of (number_at Big 4 0 header)) ≡ None
format_fault-header format header heads = rw (heads.magic, heads.major, heads.minor, heads.link) refl

-- a text has one file header, of one format
pub same_header : (format other : Format) (header others rest more : List ℕ) → IsFileHeader format header → IsFileHeader other others
    → header ++ rest ≡ others ++ more → (format ≡ other) × (rest ≡ more)
same_header format other header others rest more heads again e = grind (arith, append_parts, header)

-- moments of the same nanoseconds are one
pub same_moment : (a b : Moment) → a.nanos ≡ b.nanos → a ≡ b
same_moment a b e =
    let moment = λ (n : ℕ) (h : n ≤ 4294967295999999999). let m : Moment = record { nanos = n; limit = h } in m in
    let P : ℕ → Type 0 = λ n. (h : n ≤ 4294967295999999999) → a ≡ moment n h in
    let one : IsProp (a.nanos ≤ 4294967295999999999) = le_prop in
    subst P e (λ h. ap (moment a.nanos) (one a.limit h)) b.limit

abbrev packet_of : Moment → ℕ → List ℕ → PacketAt
packet_of moment at frame = record { moment = moment; at = at; frame = frame }

same_packet : (p q : PacketAt) → p.moment.nanos ≡ q.moment.nanos → p.at ≡ q.at → p.frame ≡ q.frame → p ≡ q
same_packet p q moment at frame = grind (arith, same_moment p.moment q.moment moment)

-- bytes begin with one packet at most
same_begin : (format : Format) (at : ℕ) (bytes : List ℕ) (p q : PacketAt) (rest more : List ℕ)
    → BeginsWith format at bytes p rest → BeginsWith format at bytes q more → (p ≡ q) × (rest ≡ more)
same_begin format at bytes p q rest more first second = grind (arith, append_parts, same_packet)

-- where a packet begins, the reading doesn't stop
stop_of-begin : (format : Format) (at : ℕ) (bytes : List ℕ) (p : PacketAt) (rest : List ℕ)
    → BeginsWith format at bytes p rest → stop_of format at bytes ≡ None
stop_of-begin format at bytes p rest begins =
    let low : ltb 999999999 (fraction_of format begins.header) ≡ false = le-ltb _ _ (omega (arith, begins.heads.fraction)) in
    let short : ltb 262144 (captured_of format begins.header) ≡ false =
    le-ltb _ _ (omega (arith, begins.heads.limit, begins.heads.of_length)) in
    let all : ltb (length (p.frame ++ rest)) (captured_of format begins.header) ≡ false =
    le-ltb _ _ (omega (arith, length-append p.frame rest, begins.heads.of_length)) in
    ap (stop_of format at) begins.whole ∙ stop_of-append format at begins.header (p.frame ++ rest) begins.heads.size
    ∙ rw (low, short, all) refl

ending_of-begin : (format : Format) (count at : ℕ) (bytes : List ℕ) (p : PacketAt) (rest : List ℕ)
    → count < 4294967295 → BeginsWith format at bytes p rest → ending_of format count at bytes ≡ None
ending_of-begin format count at bytes p rest few begins = grind (arith, nat_tests, stop_of-begin format at bytes p rest begins)

-- at most one list of packets, and one ending
pub same_packets : (format : Format) (count at : ℕ) (bytes : List ℕ) (ps qs : List PacketAt) (e f : Ending)
    → PacketsRead format count at bytes ps e → PacketsRead format count at bytes qs f → (ps ≡ qs) × (e ≡ f)
same_packets format count at bytes [] [] e f first second = let h : Some e ≡ Some f = sym first ∙ second in (refl, cc)
same_packets format count at bytes [] (q ∷ qs) e f first second =
    let h : Some e ≡ None = sym first ∙ ending_of-begin format count at bytes q second.1.0 second.0 second.1.1 in cc
same_packets format count at bytes (p ∷ ps) [] e f first second =
    let h : Some f ≡ None = sym second ∙ ending_of-begin format count at bytes p first.1.0 first.0 first.1.1 in cc
same_packets format count at bytes (p ∷ ps) (q ∷ qs) e f first second =
    let begins = same_begin format at bytes p q first.1.0 second.1.0 first.1.1 second.1.1 in
    let again = subst (λ (more : List ℕ). PacketsRead format (count + 1) (at + (16 + length q.frame)) more qs f)
    (sym begins.1) second.1.2 in
    let here = subst (λ (r : PacketAt). PacketsRead format (count + 1) (at + (16 + length r.frame)) first.1.0 qs f) (sym begins.0) again in
    let others = same_packets format (count + 1) (at + (16 + length p.frame)) first.1.0 ps qs e f first.1.2 here in
    (ap (λ r. r ∷ ps) begins.0 ∙ ap (λ rs. q ∷ rs) others.0, others.1)

-- at most one reading
pub same_reading : (bytes : List ℕ) (ps qs : List PacketAt) (e f : Ending) → CaptureReads bytes ps e
    → CaptureReads bytes qs f → (ps ≡ qs) × (e ≡ f)
same_reading bytes ps qs e f first second = grind (arith, same_header, same_packets)

-- what reads has no fault in its file header
pub sound_reading : (bytes : List ℕ) (ps : List PacketAt) (e : Ending) → CaptureReads bytes ps e → header_fault bytes ≡ None
sound_reading bytes ps e reads = grind (arith, header_fault-append, format_fault-header)

-- Bytes without a fault in their file header are a capture.

abbrev IsBytes : List ℕ → Type 0
IsBytes bytes = (offset : ℕ) → slice_index bytes offset < 256

-- where a choice gives nothing, its test is false and the other branch gives nothing
cond_none : {X : Type 0} (b : Bool) (x : X) (y : Option X) → cond b (Some x) y ≡ None → (b ≡ false) × (y ≡ None)
cond_none true x y e = cc
cond_none false x y e = (refl, e)

option_or_none : {X : Type 0} (x y : Option X) → option_or x y ≡ None → (x ≡ None) × (y ≡ None)
option_or_none None y e = (refl, e)
option_or_none (Some x) y e = cc

byte_in : (offset : ℕ) (bytes : List ℕ) → IsBytes bytes → IsBytes (drop offset bytes)
byte_in offset bytes fits = λ k. rw (get_or-drop offset bytes k 0) (fits (offset + k))

word-lt : (order : Endianness) (offset : ℕ) (bytes : List ℕ) → IsBytes bytes → number_at order 4 offset bytes < 4294967296
unfolding number_at
word-lt Little offset bytes fits = little_from-lt 0 4 (drop offset bytes) (byte_in offset bytes fits)
word-lt Big offset bytes fits = big_from-lt 0 4 (drop offset bytes) (byte_in offset bytes fits)

-- the checks of bytes at which the reading doesn't stop: all pass
record Goes_on (format : Format) (count at : ℕ) (bytes : List ℕ) : Type 0 where
  few : eqb count 4294967295 ≡ false
  header : ltb (length bytes) 16 ≡ false
  low : ltb 999999999 (fraction_of format bytes) ≡ false
  short : ltb 262144 (captured_of format bytes) ≡ false
  whole : ltb (length bytes) (16 + captured_of format bytes) ≡ false

goes_on : (format : Format) (count at : ℕ) (bytes : List ℕ) → ending_of format count at bytes ≡ None → Goes_on format count at bytes
goes_on format count at bytes e =
    let few = cond_none _ _ _ e in
    let some_left = cond_none _ _ _ few.1 in
    let header = cond_none _ _ _ some_left.1 in
    let both = option_or_none _ _ header.1 in
    let low = cond_none _ _ _ both.0 in
    record {
      few = few.0;
      header = header.0;
      low = low.0;
      short = (cond_none _ _ _ low.1).0;
      whole = (cond_none _ _ _ both.1).0;
    }

-- the moment of the packet that such bytes begin with
moment_at : (format : Format) (bytes : List ℕ) → IsBytes bytes → fraction_of format bytes < 1000000000
    → (m : Moment) × (m.nanos ≡ seconds_of format bytes * 1000000000 + fraction_of format bytes)
moment_at format bytes fits low =
    let early = word-lt format.order 0 bytes fits in
    (record { nanos = seconds_of format bytes * 1000000000 + fraction_of format bytes; limit = omega arith }, refl)

begin_at : (format : Format) (count at : ℕ) (bytes : List ℕ) → IsBytes bytes → Goes_on format count at bytes
    → (p : PacketAt) × BeginsWith format at bytes p (drop (captured_of format bytes) (drop 16 bytes))
begin_at format count at bytes fits goes =
    let size : 16 ≤ length bytes = ltb-false _ _ goes.header in
    let fraction : fraction_of format bytes < 1000000000 = omega (arith, ltb-false 999999999 (fraction_of format bytes) goes.low) in
    let limit : captured_of format bytes ≤ 262144 = ltb-false 262144 (captured_of format bytes) goes.short in
    let room : 16 + captured_of format bytes ≤ length bytes = ltb-false _ _ goes.whole in
    let moment = moment_at format bytes fits fraction in
    let header = take 16 bytes in
    let heads_size : length header ≡ 16 = length-take-le 16 bytes size in
    let cut : header ++ drop 16 bytes ≡ bytes = take-append-drop 16 bytes in
    let words : (offset : ℕ) → offset ≤ 12 → number_at format.order 4 offset bytes ≡ number_at format.order 4 offset header =
    λ offset low. ap (number_at format.order 4 offset) (sym cut) ∙ number-within format.order 4 offset header (drop 16 bytes) (omega arith) in
    let captured : captured_of format bytes ≡ captured_of format header = words 8 (omega arith) in
    let nanos : fraction_of format bytes ≡ fraction_of format header = ap (λ w. w * scale_of format.precision) (words 4 (omega arith)) in
    let frame_size : length (take (captured_of format bytes) (drop 16 bytes)) ≡ captured_of format bytes =
    length-take-le (captured_of format bytes) (drop 16 bytes) (omega (arith, length-drop 16 bytes)) in (
      packet_of moment.0 at (take (captured_of format bytes) (drop 16 bytes)),
      record {
        header = header;
        heads = record {
          size = heads_size;
          fraction = omega (arith, nanos);
          at_moment = moment.1 ∙ ap (λ w. w * 1000000000 + fraction_of format bytes) (words 0 (omega arith))
              ∙ ap (λ n. seconds_of format header * 1000000000 + n) nanos;
          of_length = frame_size ∙ captured;
          limit = omega (arith, frame_size);
        };
        offset = refl;
        whole = sym cut ∙ ap (λ l. header ++ l) (sym (take-append-drop (captured_of format bytes) (drop 16 bytes)));
      },
    )

abbrev Reads : Format → ℕ → ℕ → List ℕ → Type 0
Reads format count at bytes = (ps : List PacketAt) × ((e : Ending) × PacketsRead format count at bytes ps e)

-- by the number of bytes left
packets_of : (fuel : ℕ) (format : Format) (count at : ℕ) (bytes : List ℕ) → length bytes ≤ fuel → count ≤ 4294967295 → IsBytes bytes
    → (stop : Option Ending) → ending_of format count at bytes ≡ stop → Reads format count at bytes
packets_of fuel format count at bytes size few fits (Some e) h = ([], (e, h))
packets_of zero format count at bytes size few fits None h = grind (arith, goes_on, ltb-false)
packets_of (suc fuel) format count at bytes size few fits None h =
    let goes = goes_on format count at bytes h in
    let long : 16 ≤ length bytes = ltb-false _ _ goes.header in
    let less : count < 4294967295 = grind (arith, nat_tests, goes.few) in
    let begins = begin_at format count at bytes fits goes in
    let rest = drop (captured_of format bytes) (drop 16 bytes) in
    let shorter : length rest ≤ fuel = omega (arith, length-drop (captured_of format bytes) (drop 16 bytes), length-drop 16 bytes) in
    let offset = at + (16 + length begins.0.frame) in
    let more = packets_of fuel format (count + 1) offset rest shorter (omega arith)
    (byte_in (captured_of format bytes) (drop 16 bytes) (byte_in 16 bytes fits))
    (ending_of format (count + 1) offset rest) refl in
    (begins.0 ∷ more.0, (more.1.0, (less, (rest, begins.1, more.1.1))))

-- a fault of a file header that gives none
format_none : (header : List ℕ) (format : Option Format) → format_fault header format ≡ None
    → (f : Format) × (format ≡ Some f) × (format_fault header (Some f) ≡ None)
format_none header None e = cc
format_none header (Some f) e = (f, refl, e)

abbrev is_ethernet : Format → List ℕ → Bool
is_ethernet format header = number_at format.order 4 20 header % 65536 == 1

both_true : (a b : Bool) → not (a && b) ≡ false → (a ≡ true) × (b ≡ true)
both_true true true e = (refl, refl)
both_true true false e = cc
both_true false b e = cc

not_false : (a : Bool) → not a ≡ false → a ≡ true
not_false true e = refl
not_false false e = cc

-- a header without a fault is one of its format
heads_of : (format : Format) (header : List ℕ) → length header ≡ 24 → format_of (number_at Big 4 0 header) ≡ Some format
    → format_fault header (Some format) ≡ None → IsFileHeader format header
heads_of format header size magic e = grind (arith, cond_none, header, both_true, eqb-true, not_false)

pub some_reading : (bytes : List ℕ) → ((offset : ℕ) → slice_index bytes offset < 256) → header_fault bytes ≡ None
    → (ps : List PacketAt) × ((e : Ending) × CaptureReads bytes ps e)
some_reading bytes fits e =
    let long = cond_none _ _ _ e in
    let size : 24 ≤ length bytes = ltb-false _ _ long.0 in
    let header = take 24 bytes in
    let heads_size : length header ≡ 24 = length-take-le 24 bytes size in
    let cut : header ++ drop 24 bytes ≡ bytes = take-append-drop 24 bytes in
    let fault : format_fault header (format_of (number_at Big 4 0 header)) ≡ None =
    sym (header_fault-append header (drop 24 bytes) heads_size) ∙ ap header_fault cut ∙ e in
    let named = format_none header (format_of (number_at Big 4 0 header)) fault in
    let packets = packets_of (length (drop 24 bytes)) named.0 0 24 (drop 24 bytes) (omega arith) (omega arith)
    (byte_in 24 bytes fits) (ending_of named.0 0 24 (drop 24 bytes)) refl in (
      packets.0,
      (
        packets.1.0,
        record {
          format = named.0;
          header = header;
          rest = drop 24 bytes;
          heads = heads_of named.0 header heads_size named.1 named.2;
          whole = sym cut;
          reads = packets.1.1;
        },
      ),
    )
