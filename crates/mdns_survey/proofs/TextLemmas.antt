-- The text of the report over hearings, as of a given moment or of the newest hearing's.
use Rattle.std.proofs.Common.{◌≡◌, ◌∙◌, ℕ, ◌≤◌, List, [], ◌∷◌, refl, sym, ap, subst, inl, inr, arith}
use Rattle.std.specs.Prelude.{Contains}
use Rattle.mdns_capture.specs.declared.moment.Moment.{Moment}
use Rattle.mdns_message.specs.declared.hearing.Hearing.{Hearing}
use Rattle.mdns_cache.specs.Live.{IsNewest, SameHearings}
use Rattle.mdns_browse.specs.{declared.about.Subject.{Subject}, declared.report.Ask.{Ask}, declared.report.Form.{Form}, Report.{IsReportIn}}
use Rattle.mdns_survey.specs.declared.request.{AsOf.{AsOf}, AsOf.TheVariants.{Newest, At, Before}, ReportRequest.{ReportRequest}}
use Rattle.mdns_survey.specs.{Filter.{filter_of}, Surveys.{IsAsOf, ReportsRequest, SurveysReport}}
use Rattle.mdns_survey.proofs.FactLemmas.{IsByFacts}

-- THE LAWS BELOW

-- a report on some hearings is one on the same hearings
abbrev pub SharedReport : Type 0
SharedReport =
    (about : List Subject) (form : Form) (ask : Ask) (hearings others : List Hearing) (now : ℕ) (text : List ℕ)
    → SameHearings hearings others → IsReportIn about form ask hearings now text → IsReportIn about form ask others now text

-- the same hearings have one report
abbrev pub OneReport : Type 0
OneReport =
    (about : List Subject) (form : Form) (ask : Ask) (hearings others : List Hearing) (now : ℕ) (text other : List ℕ)
    → SameHearings hearings others → IsReportIn about form ask hearings now text → IsReportIn about form ask others now other
    → text ≡ other

-- THE MOMENT

nothing_too : (hearings others : List Hearing) → SameHearings hearings others → hearings ≡ [] → others ≡ []
nothing_too hearings [] same none = refl
nothing_too hearings (first ∷ others) same none =
    let among = subst (λ (hs : List Hearing). Contains hs first) none (same.back first (0, omega arith, refl)) in
    absurd (omega (arith, among.1))

-- the same hearings have the same moment of a report
shared_now : (as_of : AsOf) (hearings others : List Hearing) (now : ℕ) → SameHearings hearings others
    → IsAsOf as_of hearings now → IsAsOf as_of others now
shared_now (At moment) hearings others now same is = is
shared_now (Before moment) hearings others now same is = is
shared_now Newest hearings others now same (inl as_of) = inl (nothing_too hearings others same as_of.0, as_of.1)
shared_now Newest hearings others now same (inr as_of) =
    let newest = as_of.1 in
    inr (
      as_of.0,
      record {
        hearing = newest.hearing;
        among = same.into newest.hearing newest.among;
        at_it = newest.at_it;
        latest = λ other among. newest.latest other (same.back other among);
      },
      as_of.2,
    )

not_newest : (hearings : List Hearing) (moment : Moment) → hearings ≡ [] → IsNewest hearings moment → ⊥
not_newest hearings moment none newest =
    let among = subst (λ (hs : List Hearing). Contains hs newest.hearing) none newest.among in omega (arith, among.1)

-- no hearing is later than the newest
no_later : (hearings : List Hearing) (moment other : Moment) → IsNewest hearings moment → IsNewest hearings other
    → other.nanos ≤ moment.nanos
no_later hearings moment other first second =
    let at_it : second.hearing.moment.nanos ≡ other.nanos = ap (λ (m : Moment). m.nanos) second.at_it in
    let before : second.hearing.moment.nanos ≤ moment.nanos = first.latest second.hearing second.among in
    omega arith

-- the same hearings have at most one moment of a report
one_now : (as_of : AsOf) (hearings : List Hearing) (now other : ℕ) → IsAsOf as_of hearings now → IsAsOf as_of hearings other
    → now ≡ other
one_now (At moment) hearings now other first second = first ∙ sym second
one_now (Before moment) hearings now other first second = first ∙ sym second
one_now Newest hearings now other (inl first) (inl second) = first.1 ∙ sym second.1
one_now Newest hearings now other (inl first) (inr second) = absurd (not_newest hearings second.0 first.0 second.1)
one_now Newest hearings now other (inr first) (inl second) = absurd (not_newest hearings first.0 second.0 first.1)
one_now Newest hearings now other (inr first) (inr second) =
    grind (arith, no_later hearings first.0 second.0 first.1 second.1, no_later hearings second.0 first.0 second.1 first.1)

-- THE TEXT

pub shared_text : SharedReport → (request : ReportRequest) (hearings others : List Hearing) (text : List ℕ)
    → SameHearings hearings others → ReportsRequest request hearings text → ReportsRequest request others text
shared_text shared request hearings others text same over = record {
  now = over.now;
  moment = shared_now request.as_of hearings others over.now same over.moment;
  latest = λ hearing among. over.latest hearing (same.back hearing among);
  reports = shared request.about request.form request.ask hearings others over.now text same over.reports;
}

one_text : OneReport → (request : ReportRequest) (hearings : List Hearing) (text other : List ℕ)
    → ReportsRequest request hearings text → ReportsRequest request hearings other → text ≡ other
one_text one request hearings text other first second =
    let now = one_now request.as_of hearings first.now second.now first.moment second.moment in
    one request.about request.form request.ask hearings hearings first.now text other
    (record { into = λ hearing among. among; back = λ hearing among. among })
    first.reports (subst (λ (n : ℕ). IsReportIn request.about request.form request.ask hearings n other) (sym now) second.reports)

-- a report is written by the hearings that count
pub report-by-facts : SharedReport → OneReport → (request : ReportRequest) → IsByFacts (λ captures. SurveysReport captures request)
report-by-facts shared one request = record {
  which = filter_of request.as_of;
  Writes = λ heard moments. ReportsRequest request heard;
  to = λ captures summaries text survey.
      record { packets = survey.packets; outcomes = survey.outcomes; read = survey.read; writes = survey.reports };
  from = λ captures summaries text by. record { packets = by.packets; outcomes = by.outcomes; read = by.read; reports = by.writes };
  shared = λ heard others moments more text same into back writes. shared_text shared request heard others text same writes;
  one = λ heard moments text other first second. one_text one request heard text other first second;
}
