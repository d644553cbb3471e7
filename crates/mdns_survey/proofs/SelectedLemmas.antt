-- Which hearings count.
use Rattle.std.proofs.Common.{rules, arith, ◌≡◌, ◌↔◌, ℕ, ◌<◌, Bool, true, false, List, [], ◌∷◌, ◌++◌, refl, sym}
use Rattle.std.proofs.{Common.{ap, ◌∙◌, subst, append-nil}, lemmas.Bool.{lt-ltb, ltb-true}, lemmas.List.Elements.{filter-append}}
use Rattle.std.specs.{Prelude.{Contains}, List.{filter}}
use Rattle.mdns_capture.specs.{declared.moment.Moment.{Moment}, Savefile.{PacketAt}}
use Rattle.mdns_message.specs.{declared.hearing.Hearing.{Hearing}, Message.{MessageReads}}
use Rattle.mdns_cache.proofs.{RepeatLemmas.{moment_in}, StandsPartLemmas.{Contains-head, Contains-later}}
use Rattle.mdns_cache.specs.Live.{SameHearings}
use Rattle.mdns_browse.specs.{declared.about.Subject.{Subject}, declared.report.Ask.{Ask}, declared.report.Form.{Form}, Report.{IsReportIn}}
use Rattle.mdns_survey.specs.declared.{filter.Filter.{Filter}, request.AsOf.{AsOf}, request.AsOf.TheVariants.{At, Before}}
use Rattle.mdns_survey.specs.{declared.summary.Summary.{Summary}, Laws.{AreBefore}, Outcomes.{AllRead, Outcome}}
use Rattle.mdns_survey.specs.{Filter.{counted, counts, filter_of, selected}, Surveys.{IsAsOf, ReportsBy, SurveysBy, all_hearings}}
use Rattle.mdns_lives.proofs.FilterLemmas.{from-filter, to-filter}

-- the same hearings have the same ones that count
pub same_selected : (which : Filter) (heard others : List Hearing) → SameHearings heard others
    → SameHearings (selected which heard) (selected which others)
same_selected which heard others same =
    let test : Hearing → Bool = λ h. counts which h.moment in
    record {
      into = λ hearing among. let from = from-filter test heard hearing among in
          to-filter test others hearing (same.into hearing from.0) from.1;
      back = λ hearing among. let from = from-filter test others hearing among in
          to-filter test heard hearing (same.back hearing from.0) from.1;
    }

-- those of all captures that count are those of all their hearings
pub counted-all : (which : Filter) (outcomes : List (List Outcome)) → counted which outcomes ≡ selected which (all_hearings outcomes)
counted-all which [] = refl
counted-all which (capture ∷ outcomes) = grind (arith, filter-append, counted-all which outcomes)

-- and so the same hearings have the same ones that count
pub same_counted : (which : Filter) (outcomes others : List (List Outcome)) → SameHearings (all_hearings outcomes) (all_hearings others)
    → SameHearings (counted which outcomes) (counted which others)
same_counted which outcomes others same = grind (arith, counted-all, same_selected)

-- they are what was heard by a filter
pub counted-heard : (P : List Hearing → Type 0) (which other : Filter) (outcomes : List (List Outcome)) → which ≡ other
    → P (selected which (all_hearings outcomes)) → P (counted other outcomes)
counted-heard P which other outcomes same heard =
    subst (λ (w : Filter). P (counted w outcomes)) same (subst P (sym (counted-all which outcomes)) heard)

pub counted-among : (which : Filter) (outcomes : List (List Outcome)) (hearing : Hearing) → Contains (counted which outcomes) hearing
    → Contains (all_hearings outcomes) hearing
counted-among which outcomes hearing among =
    (from-filter (λ h. counts which h.moment) (all_hearings outcomes) hearing
    (subst (λ (hs : List Hearing). Contains hs hearing) (counted-all which outcomes) among)).0

-- ALL OF THEM

all-pass : {X : Type 0} (p : X → Bool) (xs : List X) → ((x : X) → Contains xs x → p x ≡ true) → filter p xs ≡ xs
all-pass p [] passes = refl
all-pass p (first ∷ xs) passes =
    let kept : filter p (first ∷ xs) ≡ first ∷ filter p xs = rw (passes first (Contains-head first xs)) refl in
    kept ∙ ap (λ ys. first ∷ ys) (all-pass p xs (λ x among. passes x (Contains-later first xs x among)))

none-pass : {X : Type 0} (p : X → Bool) (xs : List X) → ((x : X) → Contains xs x → p x ≡ false) → filter p xs ≡ []
none-pass p [] fails = refl
none-pass p (first ∷ xs) fails =
    let left : filter p (first ∷ xs) ≡ filter p xs = rw (fails first (Contains-head first xs)) refl in
    left ∙ none-pass p xs (λ x among. fails x (Contains-later first xs x among))

module _ (which other : Filter) (is : which ≡ other) (t : Moment) (message : List ℕ) (hearings : List Hearing)
    (reads : MessageReads t message hearings) (P : List Hearing → Type 0) (heard : List Hearing) where
  abbrev test : Hearing → Bool
  test h = counts other h.moment

  -- each hearing of a message counts where its moment does
  of_moment : (b : Bool) → counts which t ≡ b → (h : Hearing) → Contains hearings h → test h ≡ b
  of_moment b e h among = subst (λ (u : Moment). counts other u ≡ b) (moment_in t message hearings reads h among)
      (subst (λ (w : Filter). counts w t ≡ b) is e)

  pub selected-more : counts which t ≡ true → P (selected other heard ++ hearings) → P (selected other (heard ++ hearings))
  selected-more e p = subst P
      (sym (filter-append test heard hearings ∙ ap (λ hs. selected other heard ++ hs) (all-pass test hearings (of_moment true e)))) p

  pub selected-same : counts which t ≡ false → P (selected other heard) → P (selected other (heard ++ hearings))
  selected-same e p = grind (arith, filter-append, none-pass, of_moment, append-nil)

-- BEFORE A MOMENT

-- as of a given moment all hearings count
pub counted-at : (moment : Moment) (outcomes : List (List Outcome)) → counted (filter_of (At moment)) outcomes ≡ all_hearings outcomes
counted-at moment outcomes = grind (arith, counted-all, all-pass)

-- where all hearings are earlier, none is left out
counted-before : (before : Moment) (outcomes : List (List Outcome))
    → ((hearing : Hearing) → Contains (all_hearings outcomes) hearing → hearing.moment.nanos < before.nanos)
    → counted (filter_of (Before before)) outcomes ≡ all_hearings outcomes
counted-before before outcomes earlier = search (rules, counted-all, all-pass, lt-ltb)

-- a hearing that counts before a moment is earlier
pub is-earlier : (before : Moment) (outcomes : List (List Outcome)) (hearing : Hearing)
    → Contains (counted (filter_of (Before before)) outcomes) hearing → hearing.moment.nanos < before.nanos
is-earlier before outcomes hearing among =
    ltb-true hearing.moment.nanos before.nanos
    (from-filter (λ h. counts (filter_of (Before before)) h.moment) (all_hearings outcomes) hearing
    (subst (λ (hs : List Hearing). Contains hs hearing) (counted-all (filter_of (Before before)) outcomes) among)).1

-- a text as of one moment is one as of another where the same hearings count, and both are the same
surveys-moved : (Is : List Hearing → ℕ → List ℕ → Type 0) (captures : List (List ℕ)) (as_of other : AsOf) (summaries : List Summary)
    (text : List ℕ) → ((heard : List Hearing) (now : ℕ) → IsAsOf as_of heard now → IsAsOf other heard now)
    → ((packets : List (List PacketAt)) (outcomes : List (List Outcome)) → AllRead captures packets outcomes summaries
    → counted (filter_of as_of) outcomes ≡ counted (filter_of other) outcomes)
    → SurveysBy Is captures as_of summaries text → SurveysBy Is captures other summaries text
surveys-moved Is captures as_of other summaries text moment same survey =
    let over = survey.reports in
    let reports : ReportsBy Is (counted (filter_of as_of) survey.outcomes) other text = record {
      now = over.now;
      moment = moment (counted (filter_of as_of) survey.outcomes) over.now over.moment;
      latest = over.latest;
      reports = over.reports;
    } in
    record {
      packets = survey.packets;
      outcomes = survey.outcomes;
      read = survey.read;
      reports = subst (λ (hs : List Hearing). ReportsBy Is hs other text) (same survey.packets survey.outcomes survey.read) reports;
    }

-- and the report is the one as of that moment
pub before_is_at : (captures : List (List ℕ)) (about : List Subject) (ask : Ask) (form : Form) (before : Moment)
    (summaries : List Summary) (text : List ℕ) → AreBefore captures before
    → SurveysBy (IsReportIn about form ask) captures (Before before) summaries text
    ↔ SurveysBy (IsReportIn about form ask) captures (At before) summaries text
before_is_at captures about ask form before summaries text are_before = search (rules, counted-before, counted-at, surveys-moved)
