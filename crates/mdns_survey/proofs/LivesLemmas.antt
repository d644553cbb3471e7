-- The chronicle of the readers listened to, and the end of their captures.
use Rattle.std.proofs.Common.{◌≡◌, ◌∙◌, ℕ, ◌<◌, ◌≤◌, List, [], ◌∷◌, ◌++◌, Option, None, Some, length, map}
use Rattle.std.proofs.Common.{refl, ap, subst, sym, inl, inr, append_assoc, arith, IsSomeAnd}
use Rattle.std.proofs.{Math.Nat.{le-max_left, le-max_right}, lemmas.List.Elements.{Contains-append_cases}}
use Rattle.std.specs.{Prelude.{Contains, option_map}, List.{flat_map}, Io.KnownBytes.{Appends}}
use Rattle.mdns_capture.specs.{declared.moment.Moment.{Moment}, Output.{AppendsPrefix, Writing}, Savefile.{PacketAt}}
use Rattle.mdns_message.specs.declared.hearing.Hearing.{Hearing}
use Rattle.mdns_cache.specs.Live.{IsNewest}
use Rattle.mdns_cache.proofs.RepeatLemmas.{moment_in}
use Rattle.mdns_lives.specs.declared.{life.Life.{Life}, life.Which.{Which}, window.Window.{Window}}
use Rattle.mdns_lives.specs.{Changes.{chosen}, Chronicle.{AreAllLives}}
use Rattle.mdns_join.specs.declared.latest.Latest.{Latest}
use Rattle.mdns_browse.specs.declared.{life_text.Layout.{Layout}, report.Form.{Form}, report.Form.TheVariants.{Csv, Lines, Json, Pretty}}
use Rattle.mdns_browse.specs.LifeText.{end_width, lives_head, lives_in, lives_report, lives_text}
use Rattle.mdns_survey.specs.declared.{request.LivesRequest.{LivesRequest}, reading.Reading.{Reading}, summary.Summary.{Summary}}
use Rattle.mdns_survey.specs.declared.{request.AsOf.{AsOf}, request.AsOf.TheVariants.{Newest, At, Before}, survey.SurveyFault.{SurveyFault}}
use Rattle.mdns_survey.specs.{declared.survey.SurveyFault.TheVariants.{File, Early, Memory, Write}, Outcomes.{AllCome, ComesTo, Outcome}}
use Rattle.mdns_survey.specs.{Outcomes.{heard, hearings_in, hearings_of_outcome, refused, skipped}, Chronicling.{FitsForm, StopsRows}}
use Rattle.mdns_survey.specs.{Head.{Heads, IsHead}, Listen.{packet_moments}, LivesAnswer.{SurveysLives, WritesFirstRows, captures_begin}}
use Rattle.mdns_survey.specs.{LivesAnswer.{captures_end, kept_rows, latest_nanos}, Question.{HearsReaders, IsAnswer, IsTooEarly}}
use Rattle.mdns_survey.specs.{Question.{Refuses, WritesAnswer, asked_after, asked_lives, past}, Readings.{all_moments, summaries_of}}
use Rattle.mdns_survey.specs.{Filter.{counted, filter_of}, Request.{moment_of}, Surveys.{AllLeft, all_hearings}}
use Rattle.mdns_survey.proofs.{KeptLemmas.{Row}, SelectedLemmas.{counted-among}, SurveyLemmas.{too-early}}
use Rattle.mdns_survey.proofs.ListenedLemmas.{known-head, known-read}

-- THE LATEST MOMENT

latest-left : (moments more : List Moment) → latest_nanos moments ≤ latest_nanos (moments ++ more)
latest-left [] more = omega arith
latest-left (first ∷ moments) more = grind (arith, latest-left moments more)

latest-right : (moments more : List Moment) → latest_nanos more ≤ latest_nanos (moments ++ more)
latest-right [] more = omega arith
latest-right (first ∷ moments) more = grind (arith, latest-right moments more)

-- THE HEARINGS OF PACKETS

-- no hearing of a packet is later than the packet
heard-then : (packet : PacketAt) (outcome : Outcome) → ComesTo packet.moment packet.frame outcome
    → (hearing : Hearing) → Contains (hearings_of_outcome outcome) hearing → hearing.moment.nanos ≤ packet.moment.nanos
heard-then packet skipped comes hearing among = absurd (omega (arith, among.1))
heard-then packet refused comes hearing among = absurd (omega (arith, among.1))
heard-then packet (heard hearings) comes hearing among = grind (arith, moment_in packet.moment comes.0 hearings comes.2 hearing among)

-- nor than the latest packet
heard-by : (packets : List PacketAt) (outcomes : List Outcome) → AllCome packets outcomes
    → (hearing : Hearing) → Contains (hearings_in outcomes) hearing → hearing.moment.nanos ≤ latest_nanos (packet_moments packets)
heard-by [] [] come hearing among = absurd (omega (arith, among.1))
heard-by [] (outcome ∷ outcomes) come hearing among = absurd come
heard-by (packet ∷ packets) [] come hearing among = absurd come
heard-by (packet ∷ packets) (outcome ∷ outcomes) come hearing among =
    elim (Contains-append_cases (hearings_of_outcome outcome) (hearings_in outcomes) hearing among) [
      | inl here ↦
          omega (
            arith,
            heard-then packet outcome come.0 hearing here,
            le-max_left packet.moment.nanos (latest_nanos (packet_moments packets)),
          )
      | inr after ↦
          omega (
            arith,
            heard-by packets outcomes come.1 hearing after,
            le-max_right packet.moment.nanos (latest_nanos (packet_moments packets)),
          )
    ]

-- and of all captures
pub all-heard-by : (lefts : List (Option (List ℕ))) (packets : List (List PacketAt)) (outcomes : List (List Outcome))
    (readings : List Reading) → AllLeft lefts packets outcomes readings
    → (hearing : Hearing) → Contains (all_hearings outcomes) hearing → hearing.moment.nanos ≤ latest_nanos (all_moments packets)
all-heard-by [] [] [] [] read hearing among = absurd (omega (arith, among.1))
all-heard-by (left ∷ lefts) (packets ∷ more) (outcomes ∷ rest) (reading ∷ readings) read hearing among =
    elim (Contains-append_cases (hearings_in outcomes) (all_hearings rest) hearing among) [
      | inl here ↦
          omega (arith, heard-by packets outcomes read.0.come hearing here, latest-left (packet_moments packets) (all_moments more))
      | inr after ↦
          omega (
            arith,
            all-heard-by lefts more rest readings read.1 hearing after,
            latest-right (packet_moments packets) (all_moments more),
          )
    ]
all-heard-by lefts packets outcomes readings read hearing among = absurd read

-- A MOMENT THAT IS TOO EARLY

-- a moment earlier than some hearing's is one that was asked for
early-end : (as_of : AsOf) (moments : List Moment) (end newest : Moment) → end.nanos ≡ captures_end as_of moments
    → end.nanos < newest.nanos → newest.nanos ≤ latest_nanos moments → IsSomeAnd (moment_of as_of) (λ m. m.nanos < newest.nanos)
early-end Newest moments end newest is early by = absurd (omega (arith, is, early, by))
early-end (At moment) moments end newest is early by = omega (arith, is, early)
early-end (Before moment) moments end newest is early by = omega (arith, is, early)

module _ {Heard : List (List PacketAt) → List (List Outcome) → Type 0} (lefts : List (Option (List ℕ))) (readings : List Reading)
    (hears : HearsReaders Heard lefts readings) (as_of : AsOf) where
  -- no hearing is later than the latest packet
  latest-heard : (newest : Moment) → IsNewest (counted (filter_of as_of) hears.outcomes) newest
      → newest.nanos ≤ latest_nanos (all_moments hears.packets)
  latest-heard newest is_newest =
      let hearing = is_newest.hearing in
      let at_it : hearing.moment.nanos ≡ newest.nanos = ap (λ (m : Moment). m.nanos) is_newest.at_it in
      let among : Contains (all_hearings hears.outcomes) hearing =
      counted-among (filter_of as_of) hears.outcomes hearing is_newest.among in
      let by : hearing.moment.nanos ≤ latest_nanos (all_moments hears.packets) =
      all-heard-by lefts hears.packets hears.outcomes readings hears.read hearing among in
      omega (arith, by, at_it)

  -- where the captures end before the newest hearing, that is their newest one, and a moment before it was asked for
  pub early-ended : (end newest : Moment) → end.nanos ≡ captures_end as_of (all_moments hears.packets) → end.nanos < newest.nanos
      → IsNewest (counted (filter_of as_of) hears.outcomes) newest → IsTooEarly as_of lefts newest
  early-ended end newest ends before is_newest =
      too-early lefts readings hears as_of newest
      (early-end as_of (all_moments hears.packets) end newest ends before (latest-heard newest is_newest)) is_newest

-- THE LAYOUT OF ROWS

-- what stands before the lives of rows
abbrev rows_head : Which → Window → Form → Option ℕ → ℕ → List (Latest × List Life) → List ℕ
rows_head which window form begin end rows = lives_head which window form (length (lives_in rows)) (end_width end rows) begin end

module _ (end : ℕ) (rows : List (Latest × List Life)) (layout : Layout) where
  -- what stands before the rows needs a layout that fits the form
  pub head-fits : (which : Which) (window : Window) (form : Form) (begin : Option ℕ) → FitsForm form end rows layout
      → lives_head which window form layout.count layout.width begin end ≡ rows_head which window form begin end rows
  head-fits which window Lines begin fits = refl
  head-fits which window Json begin fits = refl
  head-fits which window Pretty begin fits = grind arith
  head-fits which window Csv begin fits = refl

  -- and so do their lines
  pub lines-fit : (form : Form) (some : List (Latest × List Life)) → FitsForm form end rows layout
      → flat_map (lives_text form layout.width end) some ≡ flat_map (lives_text form (end_width end rows) end) some
  lines-fit Lines some fits = refl
  lines-fit Json some fits = refl
  lines-fit Pretty some fits = ap (λ n. flat_map (lives_text Pretty n end) some) fits.width
  lines-fit Csv some fits = refl

-- A TEXT BEFORE ALL ELSE

appends-past : (old new : Option (List ℕ)) (first rest : List ℕ) → Appends old new (first ++ rest)
    → Appends (option_map (λ (written : List ℕ). written ++ first) old) new rest
appends-past None new first rest written = tt
appends-past (Some text) None first rest written = absurd written
appends-past (Some text) (Some more) first rest written = written ∙ sym (append_assoc text first rest)

-- THE LIVES OF THE READERS LISTENED TO

module _ {Heard : List (List PacketAt) → List (List Outcome) → Type 0} (request : LivesRequest) (lefts : List (Option (List ℕ)))
    (readings : List Reading) (begin : Option ℕ) (end : Moment) (hears : HearsReaders Heard lefts readings)
    (begins : begin ≡ captures_begin request.as_of (all_moments hears.packets))
    (ends : end.nanos ≡ captures_end request.as_of (all_moments hears.packets))
    (latest : (hearing : Hearing) → Contains (counted (filter_of request.as_of) hears.outcomes) hearing
    → hearing.moment.nanos ≤ end.nanos)
    (rows shown : List Row) (lives : AreAllLives (counted (filter_of request.as_of) hears.outcomes) rows)
    (are : shown ≡ chosen request.which request.window rows) (layout : Layout)
    (fits : FitsForm request.form end.nanos (kept_rows request.about shown) layout) (preface head text : List ℕ)
    (heads : Heads request.form readings head)
    (is : text ≡ (preface ++ head) ++ lives_head request.which request.window request.form layout.count layout.width begin end.nanos)
    (out : Writing) where
  abbrev kept : List Row
  kept = kept_rows request.about (chosen request.which request.window rows)

  abbrev after : Writing
  after = past preface out

  abbrev report : List ℕ
  report = lives_report request.which request.window request.form begin end.nanos kept

  all_kept : kept_rows request.about shown ≡ kept
  all_kept = ap (kept_rows request.about) are

  -- the text that stands before rows, and the text of some of them
  text-fits : (some : List Row) → text ++ flat_map (lives_text request.form layout.width end.nanos) some
      ≡ preface ++ (head ++ (rows_head request.which request.window request.form begin end.nanos (kept_rows request.about shown)
      ++ flat_map (lives_text request.form (end_width end.nanos (kept_rows request.about shown)) end.nanos) some))
  text-fits some = grind (arith, head-fits, append_assoc, lines-fit)

  -- the rows are the lives of all records of the captures
  surveys-lives : (captures : List (List ℕ)) → lefts ≡ map (λ x. Some x) captures
      → SurveysLives request.which request.window request.form request.about captures request.as_of (summaries_of readings) report
  surveys-lives captures known = record {
    packets = hears.packets;
    outcomes = hears.outcomes;
    read = known-read lefts captures hears.packets hears.outcomes readings known hears.read;
    writes = record {
      latest = λ hearing among. subst (λ n. hearing.moment.nanos ≤ n) ends (latest hearing among);
      rows = rows;
      lives = lives;
      lines = ap (λ (b : Option ℕ). lives_report request.which request.window request.form b end.nanos kept) begins
          ∙ ap (λ n.
          lives_report request.which request.window request.form (captures_begin request.as_of (all_moments hears.packets)) n kept) ends;
    };
  }

  -- and they stand after the head
  is-head : (captures : List (List ℕ)) → lefts ≡ map (λ x. Some x) captures
      → IsHead request.form captures (summaries_of readings) head
  is-head captures known = known-head request.form lefts hears.packets hears.outcomes readings head heads hears.read captures known

  with-head : IsAnswer (asked_after preface (asked_lives request)) lefts (summaries_of readings) (preface ++ (head ++ report))
  with-head = λ captures known. (head ++ report, refl, (head, (report, refl, is-head captures known, surveys-lives captures known)))

  -- all rows were written
  pub writes-lives : Appends out.old out.new (text ++ flat_map (lives_text request.form layout.width end.nanos)
      (kept_rows request.about shown))
      → WritesAnswer (asked_after preface (asked_lives request)) lefts (summaries_of readings) out
  writes-lives written = grind (arith, with-head, all_kept, text-fits)

  -- rows that aren't written whole are a refused survey
  pub stops-lives : (fault : SurveyFault)
      → StopsRows text (lives_text request.form layout.width end.nanos) (kept_rows request.about shown) out fault
      → Refuses (asked_after preface (asked_lives request)) lefts out fault
  unfolding surveys-lives
  stops-lives (File index fault) stops = absurd stops
  stops-lives (Early newest) stops = absurd stops
  stops-lives Memory (inl none) = inl none
  stops-lives Memory (inr stops) = inr (λ captures known. record {
    summaries = summaries_of readings;
    head = head;
    is_head = is-head captures known;
    lives = report;
    surveys = surveys-lives captures known;
    written = subst
        (λ n. WritesFirstRows head request.which request.window request.form
        (captures_begin request.as_of (all_moments hears.packets)) n kept after)
        ends
        (subst (λ (b : Option ℕ). WritesFirstRows head request.which request.window request.form b end.nanos kept after) begins
        (subst (λ (xs : List Row). WritesFirstRows head request.which request.window request.form begin end.nanos xs after) all_kept (
          stops.0,
          (
            stops.1.0,
            stops.1.1,
            appends-past out.old out.new preface _ (subst (Appends out.old out.new) (text-fits stops.0) stops.1.2),
          ),
        )));
  })
  stops-lives Write stops = λ captures known. (
    summaries_of readings,
    (
      preface ++ (head ++ report),
      with-head captures known,
      subst
          (λ (xs : List Row). AppendsPrefix out.old out.new
          (preface ++ (head ++ lives_report request.which request.window request.form begin end.nanos xs)))
          all_kept (subst (AppendsPrefix out.old out.new) (text-fits (kept_rows request.about shown)) stops),
    ),
  )
