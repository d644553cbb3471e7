-- A capture and its two parts have the same hearings, and packets at the same moments.
use Rattle.std.proofs.Common.{arith, ◌≡◌, ◌≢◌, ◌↔◌, ◌⊎◌, ℕ, ◌+◌, ◌<◌, List, [], ◌∷◌, ◌++◌, length, slice_index}
use Rattle.std.proofs.Common.{refl, sym, ap, subst, inl, inr}
use Rattle.std.proofs.lemmas.{List.{map-append}, List.Concat.{flat_map-append}}
use Rattle.mdns_capture.specs.declared.{moment.Moment.{Moment}, savefile.Ending.{Ending}, savefile.Ending.TheVariants.{Many, Whole}}
use Rattle.mdns_capture.specs.{Savefile.{CaptureReads, PacketAt}, Cut.{ending_at, moved_to, part_before, part_from, offset_after}}
use Rattle.mdns_message.specs.declared.hearing.Hearing.{Hearing}
use Rattle.mdns_survey.specs.{declared.summary.Summary.{Summary}, Outcomes.{AllCome, Outcome, hearings_in}}
use Rattle.mdns_survey.specs.{Laws.{with_both_parts, with_capture}, Listen.{packet_moments}}
use Rattle.mdns_survey.proofs.{CountLemmas.{AreFew, tallied, tallied_together}, FactLemmas.{AllTold, Fact, Has, IsByFacts, IsIn, IsTold}}
use Rattle.mdns_survey.proofs.FactLemmas.{Told, has-cases, has-left, has-right, one-survey, one-told, shared-survey, told-by}
use Rattle.mdns_survey.proofs.{FewLemmas.{few_come, frames_of_parts}, OutcomeLemmas.{OneReading, OneTelling, SomeOutcome, some_outcomes}}
use Rattle.mdns_survey.proofs.ReadingLemmas.{come-append}

abbrev pub NotMany : Ending → Type 0
NotMany ending = (at : ℕ) → ending ≢ Many at

-- THE LAWS BELOW

-- the first part of a capture that is cut
abbrev pub FirstPart : Type 0
FirstPart =
    (bytes : List ℕ) (front back : List PacketAt) (ending : Ending) → CaptureReads bytes (front ++ back) ending → NotMany ending
    → CaptureReads (part_before (offset_after 24 front) bytes) front Whole

-- and the second
abbrev pub SecondPart : Type 0
SecondPart =
    (bytes : List ℕ) (front back : List PacketAt) (ending : Ending) → CaptureReads bytes (front ++ back) ending → NotMany ending
    → CaptureReads (part_from (offset_after 24 front) bytes) (moved_to 24 back) (ending_at (offset_after 24 back) ending)

-- PACKETS

-- packets at other offsets come to the same outcomes
come-moved : (place : ℕ) (packets : List PacketAt) (outcomes : List Outcome)
    → AllCome (moved_to place packets) outcomes ↔ AllCome packets outcomes
come-moved place [] outcomes = (λ come. come, λ come. come)
come-moved place (packet ∷ packets) [] = (λ come. come, λ come. come)
come-moved place (packet ∷ packets) (outcome ∷ outcomes) = grind (arith, come-moved (place + (16 + length packet.frame)) packets outcomes)

-- and have the same moments
moments-moved : (place : ℕ) (packets : List PacketAt) → packet_moments (moved_to place packets) ≡ packet_moments packets
moments-moved place [] = refl
moments-moved place (packet ∷ packets) =
    ap (λ (ms : List Moment). packet.moment ∷ ms) (moments-moved (place + (16 + length packet.frame)) packets)

-- THE PARTS OF A CAPTURE

-- a capture tells what two others do
record Joins (bytes first second : List ℕ) : Type 0 where
  pub whole : Told bytes
  pub front : Told first
  pub back : Told second
  pub into : (fact : Fact) (told : Told bytes) → IsTold fact bytes told → IsTold fact first front ⊎ IsTold fact second back
  pub early : (fact : Fact) (told : Told first) → IsTold fact first told → IsTold fact bytes whole
  pub late : (fact : Fact) (told : Told second) → IsTold fact second told → IsTold fact bytes whole

module _ (one : OneReading) (telling : OneTelling) (bytes first second : List ℕ) (front back : List PacketAt) (ending middle later : Ending)
    (place : ℕ) (reads : CaptureReads bytes (front ++ back) ending) (reads_first : CaptureReads first front middle)
    (reads_second : CaptureReads second (moved_to place back) later) (early : Told first) (late : Told second) where
  come_early : AllCome front early.outcomes
  come_early = subst (λ (ps : List PacketAt). AllCome ps early.outcomes)
      (one first early.packets front early.summary.ending middle early.reads reads_first).0 early.come

  come_late : AllCome (moved_to place back) late.outcomes
  come_late = subst (λ (ps : List PacketAt). AllCome ps late.outcomes)
      (one second late.packets (moved_to place back) late.summary.ending later late.reads reads_second).0 late.come

  come_whole : AllCome (front ++ back) (early.outcomes ++ late.outcomes)
  come_whole = come-append front back early.outcomes late.outcomes come_early ((come-moved place back late.outcomes).0 come_late)

  -- the hearings and moments of the whole are those of the parts
  in_parts : ◌≡◌ {A = List Hearing × List Moment} (hearings_in (early.outcomes ++ late.outcomes), packet_moments (front ++ back))
      (hearings_in early.outcomes ++ hearings_in late.outcomes, packet_moments front ++ packet_moments (moved_to place back))
  in_parts = grind (arith, flat_map-append, early, late, map-append, front, back, moments-moved)

  joined : Joins bytes first second
  joined =
      let together = tallied_together early.outcomes late.outcomes early.summary.tally late.summary.tally early.counts late.counts in
      let heard = hearings_in early.outcomes in
      let heard_after = hearings_in late.outcomes in
      let moments = packet_moments front in
      let moments_after = packet_moments (moved_to place back) in
      record {
        whole = record {
          packets = front ++ back;
          outcomes = early.outcomes ++ late.outcomes;
          summary = record { tally = together.tally; ending = ending };
          reads = reads;
          come = come_whole;
          counts = together.counts;
        };
        front = early;
        back = late;
        into = λ fact told is.
            elim (has-cases heard heard_after moments moments_after fact
            (subst (λ (both : List Hearing × List Moment). Has fact both.0 both.1) in_parts
            (one-told one telling fact bytes told (front ++ back) (early.outcomes ++ late.outcomes) ending reads come_whole is))) [
              | inl here ↦
                  inl (subst (λ (ps : List PacketAt). Has fact heard (packet_moments ps))
                  (sym (one first early.packets front early.summary.ending middle early.reads reads_first).0) here)
              | inr there ↦
                  inr (subst (λ (ps : List PacketAt). Has fact heard_after (packet_moments ps))
                  (sym (one second late.packets (moved_to place back) late.summary.ending later late.reads reads_second).0) there)
            ];
        early = λ fact told is.
            subst (λ (both : List Hearing × List Moment). Has fact both.0 both.1) (sym in_parts)
            (has-left heard heard_after moments moments_after fact
            (one-told one telling fact first told front early.outcomes middle reads_first come_early is));
        late = λ fact told is.
            subst (λ (both : List Hearing × List Moment). Has fact both.0 both.1) (sym in_parts)
            (has-right heard heard_after moments moments_after fact
            (one-told one telling fact second told (moved_to place back) late.outcomes later reads_second come_late is));
      }

-- THE PARTS AMONG OTHER CAPTURES

told-after : (before captures : List (List ℕ)) → AllTold (before ++ captures) → AllTold captures
told-after [] captures told = told
told-after (bytes ∷ before) captures told = told-after before captures told.1

module _ (bytes first second : List ℕ) (joins : Joins bytes first second) (after : List (List ℕ)) where
  in-parts : (before : List (List ℕ)) (fact : Fact) → IsIn (before ++ bytes ∷ after) fact
      → IsIn (before ++ first ∷ (second ∷ after)) fact
  in-parts [] fact (inl here) = elim (joins.into fact here.0 here.1) [
    | inl early ↦ inl (joins.front, early)
    | inr late ↦ inr (inl (joins.back, late))
  ]
  in-parts [] fact (inr later) = inr (inr later)
  in-parts (capture ∷ before) fact (inl here) = inl here
  in-parts (capture ∷ before) fact (inr later) = inr (in-parts before fact later)

  in-whole : (before : List (List ℕ)) (fact : Fact) → IsIn (before ++ first ∷ (second ∷ after)) fact
      → IsIn (before ++ bytes ∷ after) fact
  in-whole [] fact (inl here) = inl (joins.whole, joins.early fact here.0 here.1)
  in-whole [] fact (inr (inl here)) = inl (joins.whole, joins.late fact here.0 here.1)
  in-whole [] fact (inr (inr later)) = inr later
  in-whole (capture ∷ before) fact (inl here) = inl here
  in-whole (capture ∷ before) fact (inr later) = inr (in-whole before fact later)

  parts-told : (before : List (List ℕ)) → AllTold (before ++ bytes ∷ after) → AllTold (before ++ first ∷ (second ∷ after))
  parts-told [] told = (joins.front, (joins.back, told.1))
  parts-told (capture ∷ before) told = (told.0, parts-told before told.1)

  whole-told : (before : List (List ℕ)) → AllTold (before ++ first ∷ (second ∷ after)) → AllTold (before ++ bytes ∷ after)
  whole-told [] told = (joins.whole, told.1.1)
  whole-told (capture ∷ before) told = (told.0, whole-told before told.1)

-- THE TEXT

module _ (one : OneReading) (telling : OneTelling) (some : SomeOutcome) (first_part : FirstPart) (second_part : SecondPart)
    (Survey : List (List ℕ) → List Summary → List ℕ → Type 0) (by : IsByFacts Survey) (before after : List (List ℕ)) (bytes : List ℕ)
    (front back : List PacketAt) (ending : Ending) where
  abbrev whole : List (List ℕ)
  whole = with_capture before bytes after

  abbrev parts : List (List ℕ)
  parts = with_both_parts before front bytes after

  abbrev early : List ℕ
  early = part_before (offset_after 24 front) bytes

  abbrev late : List ℕ
  late = part_from (offset_after 24 front) bytes

  joins : CaptureReads bytes (front ++ back) ending → NotMany ending → Told early → Told late → Joins bytes early late
  joins reads not_many =
      joined one telling bytes early late front back ending Whole (ending_at (offset_after 24 back) ending) 24 reads
      (first_part bytes front back ending reads not_many) (second_part bytes front back ending reads not_many)

  -- a part is read, and has a tally
  part-told : (part : List ℕ) (packets : List PacketAt) (outcomes : List Outcome) (end : Ending) → CaptureReads part packets end
      → AllCome packets outcomes → AreFew outcomes → Told part
  part-told part packets outcomes end reads come few =
      let counted = tallied outcomes few in
      record {
        packets = packets;
        outcomes = outcomes;
        summary = record { tally = counted.tally; ending = end };
        reads = reads;
        come = come;
        counts = counted.counts;
      }

  -- the text of the whole is that of the parts
  pub parts-survey : (summaries : List Summary) (text : List ℕ) → ((place : ℕ) → slice_index bytes place < 256)
      → CaptureReads bytes (front ++ back) ending → NotMany ending → Survey whole summaries text
      → (more : List Summary) × Survey parts more text
  parts-survey summaries text are_bytes reads not_many survey =
      let fit = frames_of_parts bytes front back ending are_bytes reads in
      let first = some_outcomes some front in
      let second = some_outcomes some back in
      let both = joins reads not_many
      (part-told early front first.0 Whole (first_part bytes front back ending reads not_many) first.1
      (few_come front first.0 fit.0 first.1))
      (part-told late (moved_to 24 back) second.0 (ending_at (offset_after 24 back) ending)
      (second_part bytes front back ending reads not_many) ((come-moved 24 back second.0).1 second.1)
      (few_come back second.0 fit.1 second.1)) in
      shared-survey one telling Survey by whole parts summaries text
      record {
        told = parts-told bytes early late both after before (told-by one telling Survey by whole summaries text survey);
        into = in-parts bytes early late both after before;
        back = in-whole bytes early late both after before;
      }
      survey

  -- and the reverse
  pub whole-survey : (summaries : List Summary) (text : List ℕ) → CaptureReads bytes (front ++ back) ending → NotMany ending
      → Survey parts summaries text → (more : List Summary) × Survey whole more text
  whole-survey summaries text reads not_many survey =
      let told = told-by one telling Survey by parts summaries text survey in
      let rest = told-after before (early ∷ (late ∷ after)) told in
      let both = joins reads not_many rest.0 rest.1.0 in
      shared-survey one telling Survey by parts whole summaries text
      record {
        told = whole-told bytes early late both after before told;
        into = in-whole bytes early late both after before;
        back = in-parts bytes early late both after before;
      }
      survey

  pub same-split : (summaries more : List Summary) (text other : List ℕ) → CaptureReads bytes (front ++ back) ending → NotMany ending
      → Survey whole summaries text → Survey parts more other → text ≡ other
  same-split summaries more text other reads not_many survey second =
      let too = whole-survey more other reads not_many second in
      (one-survey one telling Survey by whole summaries too.0 text other survey too.1).1
