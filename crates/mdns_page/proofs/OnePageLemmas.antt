-- Captures have one page.
use Rattle.std.proofs.Common.{◌≡◌, ◌∙◌, ℕ, ◌+◌, Bool, false, List, [], ◌∷◌, Some, ap, length, map, refl, subst, sym}
use Rattle.std.proofs.lemmas.List.Elements.{All-head, All-tail}
use Rattle.std.specs.{Prelude.{max, nat_lt}, List.{All}}
use Rattle.mdns_capture.specs.Savefile.{PacketAt}
use Rattle.mdns_join.specs.{declared.latest.Latest.{Latest}, laws.Latest.{moment-same}}
use Rattle.mdns_message.specs.declared.hearing.Hearing.{Hearing}
use Rattle.mdns_cache.specs.Live.{key_of_last}
use Rattle.mdns_lives.specs.declared.{life.Life.{Life}, seconds_heard.SecondHeard.{SecondHeard}, window.Window.{Window}}
use Rattle.mdns_lives.specs.Heard.{AreSecondsHeard}
use Rattle.mdns_lives.proofs.HeardLemmas.{one-seconds}
use Rattle.mdns_browse.specs.{declared.about.Subject.{Subject}, Services.{AreEach, body_of}}
use Rattle.mdns_survey.specs.declared.{reading.Reading.{Reading}, request.AsOf.{AsOf}, summary.Summary.{Summary}}
use Rattle.mdns_survey.specs.{Outcomes.{Outcome}, LivesAnswer.{captures_end, earliest_nanos, latest_nanos}}
use Rattle.mdns_survey.specs.{Readings.{all_moments, summaries_of}, Filter.{counted, counted_each, filter_of}, Surveys.{AllLeft}}
use Rattle.mdns_cache.proofs.StandsPartLemmas.{same-itself}
use Rattle.mdns_survey.proofs.{ListenedLemmas.{known-read}, LivesLawLemmas.{OneLives}, LossLemmas.{NeverBoth, SkipsByCause}}
use Rattle.mdns_survey.proofs.{OneSurveyLemmas.{one-read}, OutcomeLemmas.{OnePayload, OneReading, OneTelling}}
use Rattle.mdns_listeners.specs.Groups.{Grouped}
use Rattle.mdns_page.specs.{Axis.{bound_or, dates_of}, ByListener.{hearings_by}, Captures.{Comparison}, Collected.{Compares}}
use Rattle.mdns_page.specs.declared.{axis.Axis.{Axis}, timeline_records.TimelinePart.{TimelinePart}}
use Rattle.mdns_page.specs.{declared.timeline_records.TimelinePart.TheVariants.{Addresses, Instances, Names}, TimelineRows.{IsCounted}}
use Rattle.mdns_page.specs.{Html.{isolated}, Document.{page}, Servers.{servers_of}, TimelineRecords.{AreRows, kept_of}}
use Rattle.mdns_page.specs.{Lead.{known_of}, Page.{SurveysPage, WritesPage, live_at_end}, Timeline.{Row, is_large, is_open, shown_seconds}}
use Rattle.mdns_page.proofs.{ComparedLemmas.{OneListOfRows, one-comparison}, CountedLemmas.{record_in}}
use Rattle.mdns_page.proofs.OneCaptureLemmas.{IsAlike, are-alike, endings-alike, facts-alike, lost-alike, section-alike, one-each}

-- ---- the records of the timeline

-- the row has the servers of its instance, of these records
abbrev IsServed : List (Latest × List Life) → Row → Type 0
IsServed rows row = row.servers ≡ servers_of rows (body_of row.last)

module _ (each : List (List Hearing)) (rows : List (Latest × List Life)) where
  -- a row is decided by its record
  one-row : (a b : Row) → record_in a ≡ record_in b → IsCounted each a → IsCounted each b → IsServed rows a → IsServed rows b → a ≡ b
  one-row a b same counted too served other =
      let last : a.last ≡ b.last = ap (λ (row : Latest × List Life). row.0) same in
      let lives : a.lives ≡ b.lives = ap (λ (row : Latest × List Life). row.1) same in
      let count : a.capture_count ≡ b.capture_count = counted.count ∙ sym too.count in
      let shown = counted.heard in
      let again = too.heard in
      let seconds : shown.all ≡ again.all =
      one-each (λ (hearings : List Hearing) (seconds : List SecondHeard). AreSecondsHeard hearings (key_of_last a.last) seconds)
      (λ hearings x y are again. one-seconds _ x y are again) each shown.all again.all shown.are
      (subst (λ (l : Latest). AreEach (λ hearings seconds. AreSecondsHeard hearings (key_of_last l) seconds) each again.all) (sym last) again.are) in
      let heard : a.heard ≡ b.heard = shown.shown ∙ ap (shown_seconds (nat_lt 4 (length each))) seconds ∙ sym again.shown in
      let servers : a.servers ≡ b.servers =
      served ∙ ap (λ (l : Latest). servers_of rows (body_of l)) last ∙ sym other in
      λ i. record { last = last i; lives = lives i; servers = servers i; capture_count = count i; heard = heard i }

  one-drawn : (xs ys : List Row) → map record_in xs ≡ map record_in ys → All (IsCounted each) xs → All (IsCounted each) ys
      → All (IsServed rows) xs → All (IsServed rows) ys → xs ≡ ys
  one-drawn [] [] same counted too served other = refl
  one-drawn [] (y ∷ ys) same counted too served other = cc
  one-drawn (x ∷ xs) [] same counted too served other = cc
  one-drawn (x ∷ xs) (y ∷ ys) same counted too served other =
      let first : record_in x ≡ record_in y = cc in
      let after : map record_in xs ≡ map record_in ys = cc in
      let row = one-row x y first (All-head (IsCounted each) x xs counted) (All-head (IsCounted each) y ys too)
      (All-head (IsServed rows) x xs served) (All-head (IsServed rows) y ys other) in
      let rest = one-drawn xs ys after (All-tail (IsCounted each) x xs counted) (All-tail (IsCounted each) y ys too)
      (All-tail (IsServed rows) x xs served) (All-tail (IsServed rows) y ys other) in
      λ i. row i ∷ rest i

one-rows : (part : TimelinePart) (window : Window) (large : Bool) (each : List (List Hearing)) (kept : List (Latest × List Life)) (xs ys : List Row)
    → AreRows part window large each kept xs → AreRows part window large each kept ys → xs ≡ ys
one-rows part window large each kept xs ys are too =
    one-drawn each kept xs ys (are.are ∙ sym too.are) are.counted too.counted are.served too.served

-- ---- the page by the hearings

module _ (one_lives : OneLives) where
  one-written : (about : List Subject) (names : List (List ℕ)) (groups : Grouped) (readings more : List Reading) (comparison : Comparison)
      (each : List (List Hearing)) (heard : List Hearing) (axis : Axis) (text other : List ℕ) → AreEach IsAlike readings more
      → WritesPage about names groups readings comparison each heard axis text
      → WritesPage about names groups more comparison each heard axis other
      → text ≡ other
  one-written about names groups readings more comparison each heard axis text other alike first second =
      let rows : second.rows ≡ first.rows = one_lives heard heard second.rows first.rows (same-itself heard) second.lives first.lives in
      let own = λ (part : TimelinePart) (large was : Bool) (xs ys : List Row) (same : was ≡ large)
      (are : AreRows part axis.window large each (kept_of about first.rows) xs) (too : AreRows part axis.window was each (kept_of about second.rows) ys).
      one-rows part axis.window large each (kept_of about first.rows) xs ys are
      (subst (λ (l : Bool). AreRows part axis.window l each (kept_of about first.rows) ys) same
      (subst (λ (rs : List (Latest × List Life)). AreRows part axis.window was each (kept_of about rs) ys) rows too)) in
      let instances : first.instances ≡ second.instances =
      own Instances false false first.instances second.instances refl first.are_instances second.are_instances in
      let large : is_large (length second.instances) ≡ is_large (length first.instances) =
      ap (λ (rs : List Row). is_large (length rs)) (sym instances) in
      let addresses : first.addresses ≡ second.addresses =
      own Addresses _ _ first.addresses second.addresses large first.are_addresses second.are_addresses in
      let others : first.others ≡ second.others = own Names _ _ first.others second.others large first.are_others second.are_others in
      first.written
      ∙ ap (page isolated) (λ i. record {
        axis = axis;
        about = about;
        captures = facts-alike groups readings more alike i;
        files = endings-alike names readings more alike i;
        comparison = comparison;
        lost = lost-alike readings more alike i;
        rows = instances i;
        addresses = addresses i;
        names = others i;
        known = map known_of (kept_of about (sym rows i));
        live = live_at_end about axis (is_open (length (instances i) + length (addresses i) + length (others i))) (sym rows i);
        skipped = section-alike readings more alike i;
      })
      ∙ sym second.written

-- ---- the page on captures

module _ (one : OneReading) (telling : OneTelling) (payload : OnePayload) (never : NeverBoth) (by_cause : SkipsByCause)
    (one_rows : OneListOfRows) (one_lives : OneLives) where
  pub one_page : (names : List (List ℕ)) (groups : Grouped) (about : List Subject) (window : Window) (as_of : AsOf) (captures : List (List ℕ))
      (summaries more : List Summary) (text other : List ℕ) → SurveysPage names groups about window as_of captures summaries text
      → SurveysPage names groups about window as_of captures more other → (summaries ≡ more) × (text ≡ other)
  one_page names groups about window as_of captures summaries more text other first second =
      let lefts = map (λ x. Some x) captures in
      let read = known-read lefts captures first.packets first.outcomes first.readings refl first.read in
      let too = known-read lefts captures second.packets second.outcomes second.readings refl second.read in
      let one_way = one-read one telling captures first.packets second.packets first.outcomes second.outcomes
      (summaries_of first.readings) (summaries_of second.readings) read too in
      let packets : second.packets ≡ first.packets = sym one_way.0 in
      let outcomes : second.outcomes ≡ first.outcomes = sym one_way.1 in
      let same : summaries_of first.readings ≡ summaries_of second.readings = one_way.2 in
      let alike = are-alike payload never by_cause lefts first.packets first.outcomes second.outcomes first.readings second.readings first.read
      (subst (λ (ps : List (List PacketAt)). AllLeft lefts ps second.outcomes second.readings) packets second.read) same in
      let asked = second.is_axis.asked ∙ sym first.is_axis.asked in
      let moments = ap all_moments packets in
      let now = moment-same second.axis.now first.axis.now
      (second.is_axis.now ∙ ap (captures_end as_of) moments ∙ sym first.is_axis.now) in
      let start = moment-same second.axis.start first.axis.start
      (second.is_axis.begins
      ∙ (λ i. bound_or (earliest_nanos (bound_or (now i).nanos window.until) (moments i)) window.since)
      ∙ sym first.is_axis.begins) in
      let end = moment-same second.axis.end first.axis.end
      (second.is_axis.ends ∙ (λ i. max (start i).nanos (bound_or (now i).nanos window.until)) ∙ sym first.is_axis.ends) in
      let dates = second.is_axis.dates
      ∙ (λ i. dates_of (earliest_nanos (start i).nanos (moments i)) (max (end i).nanos (max (now i).nanos (latest_nanos (moments i)))))
      ∙ sym first.is_axis.dates in
      let axis : second.axis ≡ first.axis =
      λ i. record { start = start i; end = end i; now = now i; window = asked i; dates = dates i } in
      let each = λ (os : List (List Outcome)). hearings_by groups (counted_each (filter_of as_of) os) in
      let comparison : second.comparison ≡ first.comparison =
      one-comparison payload one_rows groups first.packets first.outcomes second.comparison first.comparison
      (subst (λ (ps : List (List PacketAt)). Compares groups ps first.outcomes second.comparison) packets
      (subst (λ (os : List (List Outcome)). Compares groups second.packets os second.comparison) outcomes second.compares)) first.compares in (
        first.summed ∙ same ∙ sym second.summed,
        one-written one_lives about names groups first.readings second.readings first.comparison (each first.outcomes)
            (counted (filter_of as_of) first.outcomes) first.axis text other alike first.writes
            (subst (λ (c : Comparison). WritesPage about names groups second.readings c (each first.outcomes)
            (counted (filter_of as_of) first.outcomes) first.axis other) comparison
            (subst (λ (a : Axis). WritesPage about names groups second.readings second.comparison (each first.outcomes)
            (counted (filter_of as_of) first.outcomes) a other) axis
            (subst (λ (os : List (List Outcome)). WritesPage about names groups second.readings second.comparison (each os)
            (counted (filter_of as_of) os) second.axis other) outcomes second.writes))),
      )
