-- The readers listened to, one more at a time, and what is known of them where their bytes are.
use Rattle.std.proofs.Common.{◌≡◌, ◌∙◌, ℕ, ◌+◌, List, [], ◌∷◌, ◌++◌, map, Option, Some, append_assoc}
use Rattle.std.proofs.{Common.{append-nil, ap, arith, refl, subst, sym}, lemmas.List.{map-append}, lemmas.List.Sums.{sum_by-cons}}
use Rattle.std.specs.Prelude.{sum_by}
use Rattle.mdns_capture.specs.Savefile.{PacketAt}
use Rattle.mdns_message.specs.declared.hearing.Hearing.{Hearing}
use Rattle.mdns_browse.specs.declared.report.{Form.{Form}, Form.TheVariants.{Pretty}}
use Rattle.mdns_survey.specs.declared.{reading.Reading.{Reading}, summary.Summary.{Summary}}
use Rattle.mdns_survey.specs.{Outcomes.{AllRead, Outcome, hearings_in}, Head.{Heads, IsHead, lost_text, unheard_text}}
use Rattle.mdns_survey.specs.{Listen.{HearsPackets, IsReadingOf, ListensTo, TakesCapture}, Reasons.{lost_frames}}
use Rattle.mdns_survey.specs.{Readings.{CountLosses, HaveSpans, lost_in, summaries_of}, Surveys.{AllLeft, HearsAll, Listened, all_hearings}}
use Rattle.mdns_survey.proofs.HeardLemmas.{hears-nothing}

-- ONE READER MORE

all_left-more : (lefts : List (Option (List ℕ))) (packets : List (List PacketAt)) (outcomes : List (List Outcome))
    (readings : List Reading) (left : Option (List ℕ)) (front : List PacketAt) (more : List Outcome) (reading : Reading)
    → AllLeft lefts packets outcomes readings → IsReadingOf left front more reading
    → AllLeft (lefts ++ left ∷ []) (packets ++ front ∷ []) (outcomes ++ more ∷ []) (readings ++ reading ∷ [])
all_left-more [] [] [] [] left front more reading read is = (is, tt)
all_left-more (l ∷ ls) (p ∷ ps) (o ∷ os) (r ∷ rs) left front more reading read is =
    (read.0, all_left-more ls ps os rs left front more reading read.1 is)
all_left-more lefts packets outcomes readings left front more reading read is = absurd read

pub all_hearings-more : (outcomes : List (List Outcome)) (more : List Outcome)
    → all_hearings outcomes ++ hearings_in more ≡ all_hearings (outcomes ++ more ∷ [])
all_hearings-more [] more = sym (append-nil (hearings_in more))
all_hearings-more (o ∷ os) more = append_assoc (hearings_in o) (all_hearings os) (hearings_in more)
    ∙ ap (λ l. hearings_in o ++ l) (all_hearings-more os more)

-- a hearer of a capture has heard one capture more
pub hears-more : {H : Type 0} (Stands : H → H → List Hearing → Type 0) (left : Option (List ℕ)) (hearer new_hearer : H)
    (reading : Reading) → TakesCapture (HearsPackets Stands) left hearer new_hearer reading
    → ListensTo (HearsAll Stands) left hearer new_hearer reading
hears-more Stands left hearer new_hearer reading taken = record {
  packets = taken.packets;
  outcomes = taken.outcomes;
  is_reading = taken.is_reading;
  hears = λ begun earlier before stood. subst (Stands begun new_hearer) (all_hearings-more before taken.outcomes)
      (taken.took hearer (hears-nothing Stands hearer) begun (all_hearings before) stood);
}

-- one reader was listened to more
pub listened-more : {R L : Type 0} (HeardAll : L → L → List (List PacketAt) → List (List Outcome) → Type 0)
    (remaining : R → Option (List ℕ)) (readers : List R) (reader : R) (first collector new_collector : L)
    (readings new : List Reading) (reading : Reading)
    → Listened HeardAll (map remaining readers) first collector readings
    → ListensTo HeardAll (remaining reader) collector new_collector reading → new ≡ readings ++ reading ∷ []
    → Listened HeardAll (map remaining (readers ++ reader ∷ [])) first new_collector new
listened-more HeardAll remaining readers reader first collector new_collector readings new reading old heard added =
    let lefts : map remaining readers ++ remaining reader ∷ [] ≡ map remaining (readers ++ reader ∷ []) =
    sym (map-append remaining readers (reader ∷ [])) in
    let packets : List (List PacketAt) = old.packets ++ heard.packets ∷ [] in
    let outcomes : List (List Outcome) = old.outcomes ++ heard.outcomes ∷ [] in
    record {
      packets = packets;
      outcomes = outcomes;
      read = subst (λ (ls : List (Option (List ℕ))). AllLeft ls packets outcomes new) lefts
          (subst (λ (rs : List Reading). AllLeft (map remaining readers ++ remaining reader ∷ []) packets outcomes rs) (sym added)
          (all_left-more (map remaining readers) old.packets old.outcomes readings (remaining reader) heard.packets heard.outcomes
          reading old.read heard.is_reading));
      hears = λ begun earlier before stood.
          subst (HeardAll begun new_collector (earlier ++ packets)) (append_assoc before old.outcomes (heard.outcomes ∷ []))
          (subst (λ (ps : List (List PacketAt)). HeardAll begun new_collector ps ((before ++ old.outcomes) ++ heard.outcomes ∷ []))
          (append_assoc earlier old.packets (heard.packets ∷ []))
          (heard.hears begun (earlier ++ old.packets) (before ++ old.outcomes) (old.hears begun earlier before stood)));
    }

-- no reader was listened to
pub listened-nothing : {L : Type 0} (HeardAll : L → L → List (List PacketAt) → List (List Outcome) → Type 0) (collector : L)
    (readings : List Reading) → readings ≡ [] → Listened HeardAll [] collector collector readings
listened-nothing HeardAll collector readings none = record {
  packets = [];
  outcomes = [];
  read = subst (λ (rs : List Reading). AllLeft [] [] [] rs) (sym none) tt;
  hears = λ begun earlier before stood.
      subst (HeardAll begun collector (earlier ++ [])) (sym (append-nil before))
      (subst (λ (ps : List (List PacketAt)). HeardAll begun collector ps before) (sym (append-nil earlier)) stood);
}

-- WHAT THE READINGS SAY

pub count-losses : (lefts : List (Option (List ℕ))) (packets : List (List PacketAt)) (outcomes : List (List Outcome))
    (readings : List Reading) → AllLeft lefts packets outcomes readings → CountLosses packets readings
count-losses [] [] [] [] read = refl
count-losses (l ∷ ls) (p ∷ ps) (o ∷ os) (r ∷ rs) read = grind (arith, count-losses ls ps os rs read.1)
count-losses lefts packets outcomes readings read = absurd read

pub have-spans : (lefts : List (Option (List ℕ))) (packets : List (List PacketAt)) (outcomes : List (List Outcome))
    (readings : List Reading) → AllLeft lefts packets outcomes readings → HaveSpans packets readings
have-spans [] [] [] [] read = refl
have-spans (l ∷ ls) (p ∷ ps) (o ∷ os) (r ∷ rs) read = grind (arith, have-spans ls ps os rs read.1)
have-spans lefts packets outcomes readings read = absurd read

-- the lost packets of captures with these packets
pub lost-counted : (packets : List (List PacketAt)) (readings : List Reading) → CountLosses packets readings
    → lost_in readings ≡ sum_by lost_frames packets + sum_by (λ (s : Summary). s.tally.refused) (summaries_of readings)
lost-counted [] [] count = refl
lost-counted [] (r ∷ rs) count = absurd cc
lost-counted (p ∷ ps) [] count = absurd cc
lost-counted (p ∷ ps) (r ∷ rs) count =
    let here : r.lost ≡ lost_frames p = cc in
    let after : CountLosses ps rs = cc in
    let lost : lost_in (r ∷ rs) ≡ (r.lost + r.summary.tally.refused) + lost_in rs =
    sum_by-cons (λ (r : Reading). r.lost + r.summary.tally.refused) r rs in
    let frames : sum_by lost_frames (p ∷ ps) ≡ lost_frames p + sum_by lost_frames ps = sum_by-cons lost_frames p ps in
    let refused : sum_by (λ (s : Summary). s.tally.refused) (summaries_of (r ∷ rs))
    ≡ r.summary.tally.refused + sum_by (λ (s : Summary). s.tally.refused) (summaries_of rs) =
    sum_by-cons (λ (s : Summary). s.tally.refused) r.summary (summaries_of rs) in
    omega (arith, lost, frames, refused, here, lost-counted ps rs after)

-- and a number that the readings say
pub lost-by-readings : (packets : List (List PacketAt)) (readings : List Reading) (lost : ℕ) → lost ≡ lost_in readings
    → CountLosses packets readings
    → lost ≡ sum_by lost_frames packets + sum_by (λ (s : Summary). s.tally.refused) (summaries_of readings)
lost-by-readings packets readings lost is count = is ∙ lost-counted packets readings count

-- WHERE THE BYTES OF ALL READERS ARE KNOWN

all_known : (captures : List (List ℕ)) (packets : List (List PacketAt)) (outcomes : List (List Outcome)) (readings : List Reading)
    → AllLeft (map (λ x. Some x) captures) packets outcomes readings → AllRead captures packets outcomes (summaries_of readings)
all_known [] [] [] [] read = tt
all_known (c ∷ cs) (p ∷ ps) (o ∷ os) (r ∷ rs) read = (read.0.reads, read.0.come, read.0.counts, all_known cs ps os rs read.1)
all_known captures packets outcomes readings read = absurd read

pub known-read : (lefts : List (Option (List ℕ))) (captures : List (List ℕ)) (packets : List (List PacketAt))
    (outcomes : List (List Outcome)) (readings : List Reading) → lefts ≡ map (λ x. Some x) captures
    → AllLeft lefts packets outcomes readings → AllRead captures packets outcomes (summaries_of readings)
known-read lefts captures packets outcomes readings known read = grind (arith, all_known)

-- for people it is the text of what was lost and heard
pub heads_pretty : (form : Form) (readings : List Reading) (given head : List ℕ) → form ≡ Pretty → given ≡ []
    → head ≡ given ++ (lost_text (lost_in readings) ++ unheard_text (sum_by (λ summary. summary.tally.hearings) (summaries_of readings)))
    → Heads form readings head
heads_pretty form readings given head is none written captures packets outcomes have count = grind (arith, lost-counted)

-- is that of the readers listened to
pub known-head : (form : Form) (lefts : List (Option (List ℕ))) (packets : List (List PacketAt)) (outcomes : List (List Outcome))
    (readings : List Reading) (head : List ℕ) → Heads form readings head → AllLeft lefts packets outcomes readings
    → (captures : List (List ℕ)) → lefts ≡ map (λ x. Some x) captures → IsHead form captures (summaries_of readings) head
known-head form lefts packets outcomes readings head heads read captures known =
    heads captures packets outcomes (known-read lefts captures packets outcomes readings known read)
    (count-losses lefts packets outcomes readings read)

-- WHAT FUNCTIONS ARE PROVED BY

pub ruleset for_lost_packets = (lost-by-readings)

pub ruleset for_collect_all = (listened-nothing, listened-more)
