-- One packet more of a capture is taken.
use Rattle.std.proofs.Common.{◌≡◌, ℕ, ◌+◌, Bool, List, [], ◌∷◌, ◌++◌, Option, Some, None, IfSome, refl, arith, length}
use Rattle.std.proofs.Common.{sym, ap, ◌∙◌, ◌≤◌, subst, length-append, append_assoc}
use Rattle.std.proofs.lemmas.{List.{map-append}, List.Sums.{count_by-le-length}}
use Rattle.std.specs.Io.KnownBytes.{Consumes}
use Rattle.mdns_capture.specs.{Limits.{file_header_size, packet_header_size}, declared.savefile.Format.{Format}, Savefile.{PacketAt}}
use Rattle.mdns_capture.specs.{Savefile.{BeginsWith, CaptureReads, IsPacketHeader}, Capture.{Standing, Begins, Gives}, Cut.{offset_after}}
use Rattle.mdns_survey.specs.declared.{reading.Span.{Span}, skips.Skips.{Skips}, summary.Tally.{Tally}}
use Rattle.mdns_survey.specs.{Outcomes.{Outcome, ComesTo, Counts, AllCome}, Listen.{packet_moments}}
use Rattle.mdns_survey.specs.{Reading.{CountsLoss, GoesOn, PacketsStand, ReadSoFar, TakesPacket}, Skips.{CountsSkip, CountsSkips}}
use Rattle.mdns_survey.specs.Span.{joined_spans, span_at, span_of}
use Rattle.mdns_survey.proofs.SpanLemmas.{span-more}

-- ONE PACKET MORE

pub come-append : (front back : List PacketAt) (first second : List Outcome) → AllCome front first → AllCome back second
    → AllCome (front ++ back) (first ++ second)
come-append [] back [] second come after = after
come-append [] back (outcome ∷ first) second come after = absurd come
come-append (packet ∷ front) back [] second come after = absurd come
come-append (packet ∷ front) back (outcome ∷ first) second come after = (come.0, come-append front back first second come.1 after)

stand-more : (format : Format) (at : ℕ) (bytes : List ℕ) (packets : List PacketAt) (left : List ℕ) (packet : PacketAt) (rest : List ℕ)
    → PacketsStand format at bytes packets left → BeginsWith format (offset_after at packets) left packet rest
    → PacketsStand format at bytes (packets ++ packet ∷ []) rest
stand-more format at bytes [] left packet rest same begins =
    (rest, subst (λ (bs : List ℕ). BeginsWith format at bs packet rest) (sym same) begins, refl)
stand-more format at bytes (first ∷ packets) left packet rest stand begins =
    grind (arith, stand-more format (at + (packet_header_size + length first.frame)) stand.0 packets left packet rest stand.2 begins)

offset-more : (at : ℕ) (packets : List PacketAt) (packet : PacketAt)
    → offset_after at (packets ++ packet ∷ []) ≡ offset_after at packets + (packet_header_size + length packet.frame)
offset-more at [] packet = refl
offset-more at (first ∷ packets) packet = offset-more (at + (packet_header_size + length first.frame)) packets packet

-- bytes of which some known ones were consumed
consumed : (bytes : List ℕ) (new : Option (List ℕ)) (front : List ℕ) → Consumes (Some bytes) new front
    → (rest : List ℕ) × (new ≡ Some rest) × (bytes ≡ front ++ rest)
consumed bytes None front takes = absurd takes
consumed bytes (Some rest) front takes = (rest, refl, takes)

goes-on-more : {R : Type 0} (bytes : List ℕ) (packets : List PacketAt) (old new : Standing R) (packet : PacketAt)
    → Gives old packet new → GoesOn bytes packets old → GoesOn bytes (packets ++ packet ∷ []) new
goes-on-more bytes packets old new packet gives goes =
    let begins = goes.begins in
    let taken = consumed begins.rest new.left (gives.header ++ packet.frame)
    (subst (λ (left : Option (List ℕ)). Consumes left new.left (gives.header ++ packet.frame)) goes.left gives.takes) in
    let heads = subst (λ (format : Format). IsPacketHeader format gives.header packet.moment.nanos
    (length packet.frame)) (sym goes.format) gives.heads in
    let first : BeginsWith begins.format (offset_after file_header_size packets) begins.rest packet taken.0 = record {
      header = gives.header;
      heads = heads;
      offset = gives.at_offset ∙ goes.offset;
      whole = taken.2 ∙ append_assoc gives.header packet.frame taken.0;
    } in
    record {
      begins = record {
        format = begins.format;
        header = begins.header;
        body = begins.body;
        rest = taken.0;
        heads = begins.heads;
        whole = begins.whole;
        stand = stand-more begins.format file_header_size begins.body packets begins.rest packet taken.0 begins.stand first;
      };
      format = goes.format ∙ sym gives.format;
      left = taken.1;
      offset = gives.offset ∙ ap (λ (at : ℕ). at + (packet_header_size + length packet.frame)) goes.offset
          ∙ sym (offset-more file_header_size packets packet);
      reads = λ more ending leads.
          subst (λ (all : List PacketAt). CaptureReads bytes all ending) (sym (append_assoc packets (packet ∷ []) more))
          (goes.reads (packet ∷ more) ending (gives.leads more ending leads));
    }

goes-on-known : {R : Type 0} (left : Option (List ℕ)) (packets : List PacketAt) (old new : Standing R) (packet : PacketAt)
    → Gives old packet new → IfSome left (λ bytes. GoesOn bytes packets old)
    → IfSome left (λ bytes. GoesOn bytes (packets ++ packet ∷ []) new)
goes-on-known None packets old new packet gives goes = tt
goes-on-known (Some bytes) packets old new packet gives goes = goes-on-more bytes packets old new packet gives goes

pub come-length : (packets : List PacketAt) (outcomes : List Outcome) → AllCome packets outcomes → length packets ≡ length outcomes
come-length [] [] come = refl
come-length (packet ∷ packets) (outcome ∷ outcomes) come = omega (arith, come-length packets outcomes come.1)
come-length _ _ come = absurd come

pub read-more : {R C : Type 0} (Took : C → C → List PacketAt → List Outcome → Type 0) (left : Option (List ℕ))
    (old new : Standing R) (packet : PacketAt) (first now next : C) (tally new_tally : Tally) (lost new_lost : ℕ)
    (skips new_skips : Skips) (span new_span : Option Span)
    → Gives old packet new → TakesPacket Took packet now next tally new_tally → CountsLoss packet lost new_lost
    → CountsSkip packet skips new_skips → new_span ≡ joined_spans span (Some (span_at packet.moment))
    → ReadSoFar Took left old first now tally lost skips span
    → ReadSoFar Took left new first next new_tally new_lost new_skips new_span
read-more Took left old new packet first now next tally new_tally lost new_lost skips new_skips span new_span gives takes loses counted
    widens so_far =
    let outcome = takes.outcome in
    let counts = takes.counts so_far.outcomes so_far.counts in
    record {
      packets = so_far.packets ++ packet ∷ [];
      outcomes = so_far.outcomes ++ outcome ∷ [];
      come = come-append so_far.packets (packet ∷ []) so_far.outcomes (outcome ∷ []) so_far.come (takes.comes, tt);
      counts = counts;
      counted = omega (
        arith,
        counts.packets,
        so_far.counts.packets,
        length-append so_far.outcomes (outcome ∷ []),
        gives.counted,
        so_far.counted,
      );
      losses = loses so_far.packets so_far.losses;
      skips = counted so_far.packets (omega (
        arith,
        gives.counted,
        gives.bounded,
        so_far.counted,
        so_far.counts.packets,
        come-length so_far.packets so_far.outcomes so_far.come,
      )) so_far.skips;
      spans = widens ∙ span-more span (packet_moments so_far.packets) packet.moment so_far.spans
          ∙ ap span_of (sym (map-append (λ (p : PacketAt). p.moment) so_far.packets (packet ∷ [])));
      took = λ begun nothing. takes.took begun so_far.packets so_far.outcomes (so_far.took begun nothing);
      goes_on = goes-on-known left so_far.packets old new packet gives so_far.goes_on;
    }

-- no more frames are lost than there are packets
pub lost-few : {R C : Type 0} (Took : C → C → List PacketAt → List Outcome → Type 0) (left : Option (List ℕ)) (capture : Standing R)
    (old new : C) (tally : Tally) (lost : ℕ) (skips : Skips) (span : Option Span)
    → ReadSoFar Took left capture old new tally lost skips span → lost ≤ tally.packets
lost-few Took left capture old new tally lost skips span so_far = grind (arith, count_by-le-length, come-length)

-- THE ENDS

begun : {R : Type 0} (left : Option (List ℕ)) (steady : Bool) (failures : Option ℕ) (capture : Standing R)
    → Begins left steady failures capture → IfSome left (λ bytes. GoesOn bytes [] capture)
begun None steady failures capture begins = tt
begun (Some bytes) steady failures capture begins =
    let taken = consumed bytes capture.left begins.header begins.takes in
    record {
      begins = record {
        format = capture.format;
        header = begins.header;
        body = taken.0;
        rest = taken.0;
        heads = begins.heads;
        whole = taken.2;
        stand = refl;
      };
      format = refl;
      left = taken.1;
      offset = begins.offset;
      reads = λ more ending leads. (begins.reads more ending).0 leads;
    }

-- before the first packet
pub read-none : {R C : Type 0} (Took : C → C → List PacketAt → List Outcome → Type 0) (left : Option (List ℕ)) (steady : Bool)
    (failures : Option ℕ) (capture : Standing R) (first : C) (tally : Tally) (skips : Skips)
    → Begins left steady failures capture → Counts [] tally → CountsSkips [] skips
    → ReadSoFar Took left capture first first tally 0 skips None
read-none Took left steady failures capture first tally skips begins counts none_skipped =
    grind (arith, begun, begun left steady failures capture begins)
