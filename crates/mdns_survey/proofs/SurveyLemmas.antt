-- The survey of the readers listened to, and why it is refused.
use Rattle.std.proofs.Common.{rules, ◌≡◌, Bool, IsTrue, ℕ, zero, suc, ◌<◌, List, [], ◌∷◌, ◌++◌, map, length}
use Rattle.std.proofs.Common.{sym, ap, ◌∙◌, subst, append_assoc, arith, length-append, Option, None, Some, ◌≤◌, ◌↔◌, inl, inr}
use Rattle.std.proofs.Common.{IfSome, IsSomeAnd, MatchOption, unwrap_or, Contains, Ok, Err, Result, String, Global}
use Rattle.std.proofs.{Math.Nat.{lt_of_not-le}, Math.Seq.{get_or-append_seam}, lemmas.List.{map-append, length-map}}
use Rattle.std.proofs.lemmas.List.Elements.{All-append}
use Rattle.std.specs.List.{All, HoldsAt}
use Rattle.mdns_message.specs.declared.hearing.Hearing.{Hearing}
use Rattle.mdns_capture.specs.{declared.moment.Moment.{Moment}, Savefile.{PacketAt, header_fault}, Output.{Writing}}
use Rattle.mdns_cache.specs.{Contents.{Contents, StandsFor}, Live.{IsNewest}}
use Rattle.mdns_browse.specs.declared.report.ReportFault.{ReportFault}
use Rattle.mdns_browse.specs.declared.report.ReportFault.TheVariants.{Early as ReportEarly, Memory as ReportMemory}
use Rattle.mdns_browse.specs.declared.about.Subject.{Subject}
use Rattle.mdns_browse.specs.{Report.{IfEarly, IsReport, IsReportIn}, declared.report.Ask.{Ask}, declared.report.Form.TheVariants.{Lines}}
use Rattle.mdns_survey.specs.declared.survey.{SurveyFault.{SurveyFault}, SurveyFault.TheVariants.{File, Early, Memory, Write}}
use Rattle.mdns_survey.specs.{declared.reading.Reading.{Reading}, declared.summary.Summary.{Summary}, Outcomes.{AllRead, Outcome}}
use Rattle.mdns_survey.specs.{Listen.{IsNoReadFault}, declared.listen.ListenFault.{ListenFault}, declared.request.AsOf.{AsOf}}
use Rattle.mdns_survey.specs.declared.request.{AsOf.TheVariants.{Newest, At, Before}, ReportRequest.{ReportRequest}}
use Rattle.mdns_survey.specs.{Head.{Heads}, Question.{HearsReaders, IsAnswer, IsTooEarly, LeavesUnmatchedIn, Refuses, asked_report}}
use Rattle.mdns_survey.specs.Filter.{counted}
use Rattle.mdns_survey.specs.{Filter.{filter_of}, Request.{IsEarly, at_or_newest, moment_of, plain_request}, Readings.{summaries_of}}
use Rattle.mdns_survey.specs.Surveys.{all_hearings, IsAsOf, ReportsRequest, SurveysBy, SurveysReport, SurveysRequest}
use Rattle.mdns_survey.specs.Refusals.{RefusesBy, RefusesReaders, RefusesReader, BlamesReaders}
use Rattle.mdns_survey.specs.Unmatched.{LeavesUnmatched}
use Rattle.mdns_survey.proofs.{ListenedLemmas.{known-head, known-read}, SelectedLemmas.{counted-at, is-earlier}}

-- the file header of these bytes has no fault, where they are known
abbrev pub IsSound : Option (List ℕ) → Type 0
IsSound left = IfSome left (λ bytes. header_fault bytes ≡ None)

-- one reader is sound
sound-one : (left : Option (List ℕ)) → IsSound left → All IsSound (left ∷ [])
sound-one left sound zero d within = sound
sound-one left sound (suc k) d within = absurd (omega arith)

-- all of some readers are sound, and one more
pub sound-more : {R : Type 0} (remaining : R → Option (List ℕ)) (readers : List R) (reader : R)
    → All IsSound (map remaining readers) → IsSound (remaining reader)
    → All IsSound (map remaining (readers ++ reader ∷ []))
sound-more remaining readers reader all sound =
    subst (λ (lefts : List (Option (List ℕ))). All IsSound lefts) (sym (map-append remaining readers (reader ∷ [])))
    (All-append IsSound (map remaining readers) (remaining reader ∷ []) all (sound-one (remaining reader) sound))

-- one more is counted
pub counted-more : {X Y : Type 0} (xs : List X) (ys new : List Y) (x : X) (y : Y) → length ys ≡ length xs
    → new ≡ ys ++ y ∷ [] → length new ≡ length (xs ++ x ∷ [])
counted-more {X} {Y} xs ys new x y same more = grind (arith, length-append)

-- the first of what is left was taken
pub left-more : {X : Type 0} (all done rest new : List X) (x : X) → all ≡ done ++ rest → rest ≡ x ∷ new → all ≡ (done ++ x ∷ []) ++ new
left-more all done rest new x whole first = whole ∙ ap (λ l. done ++ l) first ∙ sym (append_assoc done (x ∷ []) new)

-- the reader after sound ones is the first that fails
pub first-fails : {R : Type 0} (remaining : R → Option (List ℕ)) (readers before : List R) (reader : R)
    (after : List R) (count : ℕ) (fault : SurveyFault)
    → readers ≡ before ++ reader ∷ after → count ≡ length before → All IsSound (map remaining before)
    → RefusesReader count (remaining reader) fault → RefusesReaders (map remaining readers) fault
first-fails remaining readers before reader after count (File index fault) among counted sound refuses =
    grind (arith, map-append, length-map)
first-fails remaining readers before reader after count (Early newest) among counted sound refuses = absurd refuses
first-fails remaining readers before reader after count Memory among counted sound refuses = tt
first-fails remaining readers before reader after count Write among counted sound refuses = absurd refuses

-- a moment asked for that is too early
pub early-asked : (at newest : Option Moment) (default now found : Moment)
    → MatchOption newest (default.nanos ≡ 0) (λ m. default ≡ m) → now ≡ unwrap_or at default → newest ≡ Some found
    → now.nanos < found.nanos → IsSomeAnd at (λ m. m.nanos < found.nanos)
early-asked (Some asked) newest default now found is_default is_now is_newest early =
    subst (λ (m : Moment). m.nanos < found.nanos) is_now early
early-asked None newest default now found is_default is_now is_newest early = grind arith

-- the newest moment of contents is that of the hearings that they stand for
abbrev pub TellsNewest : Contents → Type 0
TellsNewest cache = (heard : List Hearing) → StandsFor cache heard → MatchOption cache.newest (heard ≡ []) (IsNewest heard)

pub is-newest : (cache : Contents) (found : Moment) → TellsNewest cache → cache.newest ≡ Some found
    → (heard : List Hearing) → StandsFor cache heard → IsNewest heard found
is-newest cache found tells is_found heard stands =
    subst (λ (n : Option Moment). MatchOption n (heard ≡ []) (IsNewest heard)) is_found (tells heard stands)

-- the moment of a report is that asked for, or the newest, or 0
pub as-of : (as_of : AsOf) (newest : Option Moment) (heard : List Hearing) (default now : Moment)
    → MatchOption newest (default.nanos ≡ 0) (λ m. default ≡ m) → now ≡ unwrap_or (moment_of as_of) default
    → MatchOption newest (heard ≡ []) (IsNewest heard) → IsAsOf as_of heard now.nanos
as-of (At asked) newest heard default now is_default is_now tells = ap (λ (m : Moment). m.nanos) is_now
as-of (Before asked) newest heard default now is_default is_now tells = ap (λ (m : Moment). m.nanos) is_now
as-of Newest None heard default now is_default is_now tells = inl (tells, ap (λ (m : Moment). m.nanos) is_now ∙ is_default)
as-of Newest (Some found) heard default now is_default is_now tells =
    inr (found, tells, ap (λ (m : Moment). m.nanos) (is_now ∙ is_default))

-- no hearing is later than a moment that isn't earlier than the newest
pub none-later : (newest : Option Moment) (heard : List Hearing) (now : Moment)
    → MatchOption newest (heard ≡ []) (IsNewest heard) → IfSome newest (λ found. found.nanos ≤ now.nanos)
    → (hearing : Hearing) → Contains heard hearing → hearing.moment.nanos ≤ now.nanos
none-later None heard now tells on_time hearing among = grind arith
none-later (Some found) heard now tells on_time hearing among = search rules

not-less : {a b : ℕ} → (a < b → ⊥) → b ≤ a
not-less {a} {b} never = grind (arith, lt_of_not-le)

-- where there is a report, no hearing is later than its moment
pub on-time : (newest : Option Moment) (now : Moment) (text : String Global)
    → IfSome newest (λ found. now.nanos < found.nanos → ◌≡◌ {A = Result (String Global) ReportFault} (Ok text)
    (Err (ReportEarly found))) → IfSome newest (λ found. found.nanos ≤ now.nanos)
on-time None now text never = tt
on-time (Some found) now text never = grind (arith, not-less)

-- the report as of that moment, which no hearing is later than, is what the request asks for
pub reports-as-of : (request : ReportRequest) (newest : Option Moment) (heard : List Hearing)
    (at : Option Moment) (default now : Moment)
    (text : List ℕ) → MatchOption newest (heard ≡ []) (IsNewest heard)
    → MatchOption newest (default.nanos ≡ 0) (λ m. default ≡ m) → at ≡ moment_of request.as_of → now ≡ unwrap_or at default
    → ((hearing : Hearing) → Contains heard hearing → hearing.moment.nanos ≤ now.nanos)
    → IsReportIn request.about request.form request.ask heard now.nanos text
    → ReportsRequest request heard text
reports-as-of request newest heard at default now text tells is_default is_at is_now latest reports =
    grind (arith, as-of, unwrap_or)

-- a moment earlier than the newest of the hearings that count is one that was asked for, and earlier than all others
pub early-counted : (as_of : AsOf) (newest : Moment) (outcomes : List (List Outcome))
    → IsSomeAnd (moment_of as_of) (λ m. m.nanos < newest.nanos) → IsNewest (counted (filter_of as_of) outcomes) newest
    → IsEarly as_of newest × IsNewest (all_hearings outcomes) newest
early-counted Newest newest outcomes early is_newest = absurd early
early-counted (At moment) newest outcomes early is_newest =
    (early, subst (λ (hs : List Hearing). IsNewest hs newest) (counted-at moment outcomes) is_newest)
early-counted (Before before) newest outcomes early is_newest = grind (arith, is-earlier before outcomes is_newest.hearing is_newest.among)

-- THE READERS LISTENED TO

pub early-weaker : {P Q : Moment → Type 0} (fault : ReportFault) → ((newest : Moment) → P newest → Q newest) → IfEarly fault P
    → IfEarly fault Q
early-weaker (ReportEarly newest) weaker is = weaker newest is
early-weaker ReportMemory weaker is = tt

module _ {Heard : List (List PacketAt) → List (List Outcome) → Type 0} (lefts : List (Option (List ℕ))) (readings : List Reading)
    (hears : HearsReaders Heard lefts readings) where
  pub read-heard : (captures : List (List ℕ)) → lefts ≡ map (λ x. Some x) captures
      → AllRead captures hears.packets hears.outcomes (summaries_of readings)
  read-heard captures known = known-read lefts captures hears.packets hears.outcomes readings known hears.read

  -- what is unmatched by the hearings that count
  pub leaves-heard : (about : List Subject) (as_of : AsOf) (unmatched : Option (List ℕ))
      → LeavesUnmatched about (counted (filter_of as_of) hears.outcomes) unmatched → (captures : List (List ℕ))
      → lefts ≡ map (λ x. Some x) captures → LeavesUnmatchedIn about as_of captures unmatched
  leaves-heard about as_of unmatched leaves captures known = record {
    packets = hears.packets;
    outcomes = hears.outcomes;
    summaries = summaries_of readings;
    read = read-heard captures known;
    leaves = leaves;
  }

  -- a moment that was asked for, and is earlier than the newest of the hearings that count
  pub too-early : (as_of : AsOf) (newest : Moment) → IsSomeAnd (moment_of as_of) (λ m. m.nanos < newest.nanos)
      → IsNewest (counted (filter_of as_of) hears.outcomes) newest → IsTooEarly as_of lefts newest
  too-early as_of newest asked is_newest =
      let early = early-counted as_of newest hears.outcomes asked is_newest in (
        early.0,
        λ captures known. record {
          packets = hears.packets;
          outcomes = hears.outcomes;
          summaries = summaries_of readings;
          read = read-heard captures known;
          is_newest = early.1;
        },
      )

  -- the report on the hearings that count, after its head
  pub answers-request : (request : ReportRequest) (head report text : List ℕ) → Heads request.form readings head
      → text ≡ head ++ report
      → ReportsRequest request (counted (filter_of request.as_of) hears.outcomes) report
      → IsAnswer (asked_report request) lefts (summaries_of readings) text
  answers-request request head report text heads is reports = grind (arith, known-head, read-heard)

-- the reader that failed is the one at its place
spares-steady : {R : Type 0} (steady : R → Bool) (readers before : List R) (reader : R) (after : List R) (count : ℕ) (fault : ListenFault)
    → readers ≡ before ++ reader ∷ after → count ≡ length before → (IsTrue (steady reader) → IsNoReadFault fault)
    → HoldsAt (λ one. IsTrue (steady one) → IsNoReadFault fault) readers count
spares-steady {R} steady readers before reader after count fault among counted spared default =
    grind (arith, get_or-append_seam before reader after default)

-- the reader that failed is among them, and to blame
pub blames-reader : {R : Type 0} (steady : R → Bool) (readers before : List R) (reader : R) (after : List R)
    (count : ℕ) (fault : ListenFault)
    → readers ≡ before ++ reader ∷ after → count ≡ length before → (IsTrue (steady reader) → IsNoReadFault fault)
    → BlamesReaders steady readers (File count fault)
blames-reader {R} steady readers before reader after count fault among counted spared = grind (
  arith,
  length-append before (reader ∷ after),
  get_or-append_seam before reader after reader,
  spares-steady steady readers before reader after count fault among counted spared,
)

-- REPORTS THAT SAY THE SAME

-- the report in lines of words is the one about no subjects
abbrev pub AboutAll : Type 0
AboutAll =
    (ask : Ask) (heard : List Hearing) (now : ℕ) (text : List ℕ) → IsReportIn [] Lines ask heard now text ↔ IsReport ask heard now text

module _ (Is Same : List Hearing → ℕ → List ℕ → Type 0)
    (says : (heard : List Hearing) (now : ℕ) (text : List ℕ) → Is heard now text → Same heard now text) where
  pub surveys-too : (captures : List (List ℕ)) (as_of : AsOf) (summaries : List Summary) (text : List ℕ)
      → SurveysBy Is captures as_of summaries text → SurveysBy Same captures as_of summaries text
  surveys-too captures as_of summaries text survey = grind arith

-- a survey by the report in lines of words is the one that a plain request asks for
pub plain-survey : AboutAll → (captures : List (List ℕ)) (ask : Ask) (at : Option Moment) (summaries : List Summary) (text : List ℕ)
    → SurveysBy (IsReport ask) captures (at_or_newest at) summaries text
    ↔ SurveysReport captures (plain_request ask at) summaries text
plain-survey all captures ask at summaries text = grind (arith, surveys-too)

-- the text that a plain request asks for has no head
plain-alone : (ask : Ask) (at : Option Moment) (captures : List (List ℕ)) (summaries : List Summary) (text : List ℕ)
    → SurveysRequest captures (plain_request ask at) summaries text → SurveysReport captures (plain_request ask at) summaries text
plain-alone ask at captures summaries text surveys = grind arith

pub surveys-plain : AboutAll → (ask : Ask) (at : Option Moment) (request : ReportRequest) → request ≡ plain_request ask at
    → (captures : List (List ℕ)) (summaries : List Summary) (text : List ℕ)
    → SurveysRequest captures request summaries text → SurveysBy (IsReport ask) captures (at_or_newest at) summaries text
surveys-plain all ask at request is captures summaries text survey = grind (arith, plain-survey, plain-alone)

refused_plainly : AboutAll → (ask : Ask) (at : Option Moment) (lefts : List (Option (List ℕ))) (out : Writing) (fault : SurveyFault)
    → Refuses (asked_report (plain_request ask at)) lefts out fault → RefusesBy (IsReport ask) lefts (at_or_newest at) out fault
refused_plainly all ask at lefts out (File index fault) refuses = refuses
refused_plainly all ask at lefts out (Early newest) refuses = refuses
refused_plainly all ask at lefts out Memory refuses = tt
refused_plainly all ask at lefts out Write refuses = grind (arith, surveys-plain)

pub refuses-plain : AboutAll → (ask : Ask) (at : Option Moment) (request : ReportRequest) → request ≡ plain_request ask at
    → (lefts : List (Option (List ℕ))) (out : Writing) (fault : SurveyFault)
    → Refuses (asked_report request) lefts out fault → RefusesBy (IsReport ask) lefts (at_or_newest at) out fault
refuses-plain all ask at request is lefts out fault refuses =
    refused_plainly all ask at lefts out fault (subst (λ (q : ReportRequest). Refuses (asked_report q) lefts out fault) is refuses)

-- WHAT FUNCTIONS ARE PROVED BY

pub ruleset for_plain_survey = (plain-survey)

pub ruleset for_collect_all = (blames-reader, counted-more, first-fails, left-more, sound-more)
