-- What an answer to captures rests on, their hearings and the moments of their packets: captures that have the same ones have
-- the same answer.
use Rattle.std.proofs.Common.{◌≡◌, ◌⊎◌, ℕ, List, [], ◌∷◌, ◌++◌, subst, sym, inl, inr, arith}
use Rattle.std.specs.Prelude.{Contains}
use Rattle.std.proofs.lemmas.List.Elements.{Contains-append_cases, Contains-append_left, Contains-append_right}
use Rattle.mdns_capture.specs.{declared.moment.Moment.{Moment}, declared.savefile.Ending.{Ending}, Savefile.{CaptureReads, PacketAt}}
use Rattle.mdns_message.specs.declared.hearing.Hearing.{Hearing}
use Rattle.mdns_cache.specs.Live.{SameHearings}
use Rattle.mdns_cache.proofs.StandsPartLemmas.{Contains-cases, Contains-head, Contains-later}
use Rattle.mdns_survey.specs.{declared.summary.Summary.{Summary}, Outcomes.{AllCome, AllRead, CaptureTells, Counts, Outcome, hearings_in}}
use Rattle.mdns_survey.specs.{declared.filter.Filter.{Filter}, Filter.{counted}, Laws.{SameCaptures}, Listen.{packet_moments}}
use Rattle.mdns_survey.specs.{Readings.{all_moments}, Surveys.{all_hearings}}
use Rattle.mdns_survey.proofs.{OneSurveyLemmas.{one-read}, OutcomeLemmas.{OneReading, OneTelling}, SelectedLemmas.{same_counted}}

-- a hearing, or the moment of a packet
abbrev pub Fact : Type 0
Fact = Hearing ⊎ Moment

-- it is among these
abbrev pub Has : Fact → List Hearing → List Moment → Type 0
Has (inl hearing) heard moments = Contains heard hearing
Has (inr moment) heard moments = Contains moments moment

has-none : (fact : Fact) → Has fact [] [] → ⊥
has-none (inl hearing) has = omega (arith, has.1)
has-none (inr moment) has = omega (arith, has.1)

module _ (heard others : List Hearing) (moments more : List Moment) where
  pub has-cases : (fact : Fact) → Has fact (heard ++ others) (moments ++ more) → Has fact heard moments ⊎ Has fact others more
  has-cases (inl hearing) has = Contains-append_cases heard others hearing has
  has-cases (inr moment) has = Contains-append_cases moments more moment has

  pub has-left : (fact : Fact) → Has fact heard moments → Has fact (heard ++ others) (moments ++ more)
  has-left (inl hearing) has = Contains-append_left heard others hearing has
  has-left (inr moment) has = Contains-append_left moments more moment has

  pub has-right : (fact : Fact) → Has fact others more → Has fact (heard ++ others) (moments ++ more)
  has-right (inl hearing) has = Contains-append_right heard others hearing has
  has-right (inr moment) has = Contains-append_right moments more moment has

-- CAPTURES

-- a capture, as it is read
pub record Told (bytes : List ℕ) : Type 0 where
  pub packets : List PacketAt
  pub outcomes : List Outcome
  pub summary : Summary
  pub reads : CaptureReads bytes packets summary.ending
  pub come : AllCome packets outcomes
  pub counts : Counts outcomes summary.tally

abbrev pub AllTold : List (List ℕ) → Type 0
AllTold [] = Unit {0}
AllTold (bytes ∷ captures) = Told bytes × AllTold captures

pub told-all : (captures : List (List ℕ)) (packets : List (List PacketAt)) (outcomes : List (List Outcome)) (summaries : List Summary)
    → AllRead captures packets outcomes summaries → AllTold captures
told-all [] [] [] [] read = tt
told-all (bytes ∷ captures) (packets ∷ more) (outcomes ∷ rest) (summary ∷ summaries) read = (
  record { packets = packets; outcomes = outcomes; summary = summary; reads = read.0; come = read.1; counts = read.2 },
  told-all captures more rest summaries read.3,
)
told-all captures packets outcomes summaries read = absurd read

-- the hearing, or the moment, is told by the capture
abbrev pub IsTold : Fact → (bytes : List ℕ) → Told bytes → Type 0
IsTold fact bytes told = Has fact (hearings_in told.outcomes) (packet_moments told.packets)

-- by one of the captures
abbrev pub IsIn : List (List ℕ) → Fact → Type 0
IsIn [] fact = ⊥
IsIn (bytes ∷ captures) fact = ((told : Told bytes) × IsTold fact bytes told) ⊎ IsIn captures fact

in-some : (captures : List (List ℕ)) (packets : List (List PacketAt)) (outcomes : List (List Outcome)) (summaries : List Summary)
    → AllRead captures packets outcomes summaries → (fact : Fact) → Has fact (all_hearings outcomes) (all_moments packets)
    → IsIn captures fact
in-some [] [] [] [] read fact has = absurd (has-none fact has)
in-some (bytes ∷ captures) (packets ∷ more) (outcomes ∷ rest) (summary ∷ summaries) read fact has =
    elim (has-cases (hearings_in outcomes) (all_hearings rest) (packet_moments packets) (all_moments more) fact has) [
      | inl here ↦ inl (
        record { packets = packets; outcomes = outcomes; summary = summary; reads = read.0; come = read.1; counts = read.2 },
        here,
      )
      | inr after ↦ inr (in-some captures more rest summaries read.3 fact after)
    ]
in-some captures packets outcomes summaries read fact has = absurd read

-- what others have that read
pub record Yields (captures others : List (List ℕ)) : Type 0 where
  pub told : AllTold others
  pub into : (fact : Fact) → IsIn captures fact → IsIn others fact
  pub back : (fact : Fact) → IsIn others fact → IsIn captures fact

-- THE ANSWER

-- the moments of one list are among those of another
abbrev pub Within : List Moment → List Moment → Type 0
Within moments others = (moment : Moment) → Contains moments moment → Contains others moment

-- the text is written by those hearings of captures that count, and the moments of their packets
pub record WritesBy (which : Filter) (Writes : List Hearing → List Moment → List ℕ → Type 0) (captures : List (List ℕ))
    (summaries : List Summary) (text : List ℕ) : Type 0 where
  pub packets : List (List PacketAt)
  pub outcomes : List (List Outcome)
  pub read : AllRead captures packets outcomes summaries
  pub writes : Writes (counted which outcomes) (all_moments packets) text

-- a survey writes a text by them: the same ones have the same text, and no other
pub record IsByFacts (Survey : List (List ℕ) → List Summary → List ℕ → Type 0) : Type 1 where
  pub which : Filter
  pub Writes : List Hearing → List Moment → List ℕ → Type 0
  pub to : (captures : List (List ℕ)) (summaries : List Summary) (text : List ℕ) → Survey captures summaries text
      → WritesBy which Writes captures summaries text
  pub from : (captures : List (List ℕ)) (summaries : List Summary) (text : List ℕ) → WritesBy which Writes captures summaries text
      → Survey captures summaries text
  pub shared : (heard others : List Hearing) (moments more : List Moment) (text : List ℕ) → SameHearings heard others
      → Within moments more → Within more moments → Writes heard moments text → Writes others more text
  pub one : (heard : List Hearing) (moments : List Moment) (text other : List ℕ) → Writes heard moments text
      → Writes heard moments other → text ≡ other

-- captures that were read, with their summaries
pub record ReadAll (captures : List (List ℕ)) : Type 0 where
  pub packets : List (List PacketAt)
  pub outcomes : List (List Outcome)
  pub summaries : List Summary
  pub read : AllRead captures packets outcomes summaries

read-all : (captures : List (List ℕ)) → AllTold captures → ReadAll captures
read-all [] told = record { packets = []; outcomes = []; summaries = []; read = tt }
read-all (bytes ∷ captures) told =
    let first = told.0 in
    let rest = read-all captures told.1 in
    record {
      packets = first.packets ∷ rest.packets;
      outcomes = first.outcomes ∷ rest.outcomes;
      summaries = first.summary ∷ rest.summaries;
      read = (first.reads, first.come, first.counts, rest.read);
    }

module _ (one : OneReading) (telling : OneTelling) where
  -- what a capture tells, it has by each of its readings
  pub one-told : (fact : Fact) (bytes : List ℕ) (told : Told bytes) (packets : List PacketAt) (outcomes : List Outcome) (ending : Ending)
      → CaptureReads bytes packets ending → AllCome packets outcomes → IsTold fact bytes told
      → Has fact (hearings_in outcomes) (packet_moments packets)
  one-told fact bytes told packets outcomes ending reads come is =
      let first : CaptureTells bytes told.outcomes told.summary.ending =
      record { packets = told.packets; reads = told.reads; come = told.come } in
      let second : CaptureTells bytes outcomes ending = record { packets = packets; reads = reads; come = come } in
      subst (λ (ps : List PacketAt). Has fact (hearings_in outcomes) (packet_moments ps))
      (one bytes told.packets packets told.summary.ending ending told.reads reads).0
      (subst (λ (os : List Outcome). Has fact (hearings_in os) (packet_moments told.packets))
      (telling bytes told.outcomes outcomes told.summary.ending ending first second).0 is)

  in-all : (captures : List (List ℕ)) (packets : List (List PacketAt)) (outcomes : List (List Outcome)) (summaries : List Summary)
      → AllRead captures packets outcomes summaries → (fact : Fact) → IsIn captures fact
      → Has fact (all_hearings outcomes) (all_moments packets)
  in-all [] [] [] [] read fact is_in = absurd is_in
  in-all (bytes ∷ captures) (packets ∷ more) (outcomes ∷ rest) (summary ∷ summaries) read fact (inl here) =
      has-left (hearings_in outcomes) (all_hearings rest) (packet_moments packets) (all_moments more) fact
      (one-told fact bytes here.0 packets outcomes summary.ending read.0 read.1 here.1)
  in-all (bytes ∷ captures) (packets ∷ more) (outcomes ∷ rest) (summary ∷ summaries) read fact (inr after) =
      grind (arith, has-right, outcomes, packets, summaries, read, in-all captures more rest summaries read.3 fact after)
  in-all captures packets outcomes summaries read fact is_in = absurd read

  module _ (Survey : List (List ℕ) → List Summary → List ℕ → Type 0) (by : IsByFacts Survey) where
    -- captures have one text, and one list of summaries
    pub one-survey : (captures : List (List ℕ)) (summaries more : List Summary) (text other : List ℕ)
        → Survey captures summaries text → Survey captures more other → (summaries ≡ more) × (text ≡ other)
    one-survey captures summaries more text other survey second =
        let a = by.to captures summaries text survey in
        let b = by.to captures more other second in
        let same = one-read one telling captures a.packets b.packets a.outcomes b.outcomes summaries more a.read b.read in (
          same.2,
          by.one (counted by.which a.outcomes) (all_moments a.packets) text other a.writes
              (subst (λ (ps : List (List PacketAt)). by.Writes (counted by.which a.outcomes) (all_moments ps) other) (sym same.0)
              (subst (λ (os : List (List Outcome)). by.Writes (counted by.which os) (all_moments b.packets) other) (sym same.1) b.writes)),
        )

    pub told-by : (captures : List (List ℕ)) (summaries : List Summary) (text : List ℕ) → Survey captures summaries text
        → AllTold captures
    told-by captures summaries text survey =
        let a = by.to captures summaries text survey in told-all captures a.packets a.outcomes summaries a.read

    -- others that have the same hearings and moments have the same text
    pub shared-survey : (captures others : List (List ℕ)) (summaries : List Summary) (text : List ℕ) → Yields captures others
        → Survey captures summaries text → (more : List Summary) × Survey others more text
    shared-survey captures others summaries text yields survey =
        let a = by.to captures summaries text survey in
        let b = read-all others yields.told in
        let into : (fact : Fact) → Has fact (all_hearings a.outcomes) (all_moments a.packets)
        → Has fact (all_hearings b.outcomes) (all_moments b.packets) =
        λ fact has. in-all others b.packets b.outcomes b.summaries b.read fact
        (yields.into fact (in-some captures a.packets a.outcomes summaries a.read fact has)) in
        let back : (fact : Fact) → Has fact (all_hearings b.outcomes) (all_moments b.packets)
        → Has fact (all_hearings a.outcomes) (all_moments a.packets) =
        λ fact has. in-all captures a.packets a.outcomes summaries a.read fact
        (yields.back fact (in-some others b.packets b.outcomes b.summaries b.read fact has)) in (
          b.summaries,
          by.from others b.summaries text
              record {
                packets = b.packets;
                outcomes = b.outcomes;
                read = b.read;
                writes = by.shared (counted by.which a.outcomes) (counted by.which b.outcomes) (all_moments a.packets)
                    (all_moments b.packets) text
                    (same_counted by.which a.outcomes b.outcomes
                    record { into = λ hearing has. into (inl hearing) has; back = λ hearing has. back (inl hearing) has })
                    (λ moment has. into (inr moment) has) (λ moment has. back (inr moment) has) a.writes;
              },
        )

-- THE SAME CAPTURES

-- a capture among others is read as they are
told-one : (captures : List (List ℕ)) → AllTold captures → (bytes : List ℕ) → Contains captures bytes → Told bytes
told-one [] told bytes among = absurd (omega (arith, among.1))
told-one (first ∷ captures) told bytes among =
    elim (Contains-cases first captures bytes among) [
      | inl is ↦ subst Told is told.0
      | inr after ↦ told-one captures told.1 bytes after
    ]

told-each : (captures : List (List ℕ)) → ((bytes : List ℕ) → Contains captures bytes → Told bytes) → AllTold captures
told-each [] each = tt
told-each (bytes ∷ captures) each =
    (each bytes (Contains-head bytes captures), told-each captures (λ b among. each b (Contains-later bytes captures b among)))

in-among : (captures : List (List ℕ)) (fact : Fact) (bytes : List ℕ) → Contains captures bytes → (told : Told bytes)
    → IsTold fact bytes told → IsIn captures fact
in-among [] fact bytes among told is = absurd (omega (arith, among.1))
in-among (first ∷ captures) fact bytes among told is =
    elim (Contains-cases first captures bytes among) [
      | inl same ↦ inl (subst (λ (b : List ℕ). (t : Told b) × IsTold fact b t) (sym same) (told, is))
      | inr after ↦ inr (in-among captures fact bytes after told is)
    ]

in-others : (captures others : List (List ℕ)) → ((bytes : List ℕ) → Contains captures bytes → Contains others bytes)
    → (fact : Fact) → IsIn captures fact → IsIn others fact
in-others [] others into fact is_in = absurd is_in
in-others (bytes ∷ captures) others into fact (inl here) =
    in-among others fact bytes (into bytes (Contains-head bytes captures)) here.0 here.1
in-others (bytes ∷ captures) others into fact (inr after) =
    in-others captures others (λ b among. into b (Contains-later bytes captures b among)) fact after

pub same-yield : (captures others : List (List ℕ)) → SameCaptures captures others → AllTold captures → Yields captures others
same-yield captures others same told = record {
  told = told-each others (λ bytes among. told-one captures told bytes (same.back bytes among));
  into = in-others captures others same.into;
  back = in-others others captures same.back;
}

module _ (one : OneReading) (telling : OneTelling) (Survey : List (List ℕ) → List Summary → List ℕ → Type 0) (by : IsByFacts Survey) where
  pub same-captures : (captures others : List (List ℕ)) (summaries : List Summary) (text : List ℕ) → SameCaptures captures others
      → Survey captures summaries text → (more : List Summary) × Survey others more text
  same-captures captures others summaries text same survey =
      shared-survey one telling Survey by captures others summaries text
      (same-yield captures others same (told-by one telling Survey by captures summaries text survey)) survey

  pub same-texts : (captures others : List (List ℕ)) (summaries more : List Summary) (text other : List ℕ) → SameCaptures captures others
      → Survey captures summaries text → Survey others more other → text ≡ other
  same-texts captures others summaries more text other same survey second =
      let too = same-captures captures others summaries text same survey in
      (one-survey one telling Survey by others too.0 more text other too.1 second).1
