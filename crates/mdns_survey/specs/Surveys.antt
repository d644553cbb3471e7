-- The text of a survey of captures: the report over the hearings of all of them.
use Rattle.std.specs.{Prelude.{◌≡◌, ◌⊎◌, ℕ, ◌≤◌, List, [], ◌∷◌, ◌++◌, Option, Contains}, List.{flat_map}}
use Rattle.mdns_capture.specs.{declared.moment.Moment.{Moment}, Savefile.{PacketAt}}
use Rattle.mdns_message.specs.declared.hearing.Hearing.{Hearing}
use Rattle.mdns_cache.specs.Live.{IsNewest}
use Rattle.mdns_browse.specs.Report.{IsReportIn}
use Rattle.mdns_survey.specs.{Outcomes.{AllRead, Outcome, hearings_in}, declared.request.AsOf.{AsOf}}
use Rattle.mdns_survey.specs.declared.request.{AsOf.TheVariants.{Newest, At, Before}, ReportRequest.{ReportRequest}}
use Rattle.mdns_survey.specs.{declared.reading.Reading.{Reading}, declared.summary.Summary.{Summary}, Head.{IsHead}, Listen.{IsReadingOf}}
use Rattle.mdns_survey.specs.Filter.{counted, filter_of}

-- the hearings of all captures, as often as they come
abbrev pub all_hearings : List (List Outcome) → List Hearing
all_hearings outcomes = flat_map hearings_in outcomes

-- the moment of a report: the one asked for; without one the newest hearing's, and 0 if nothing was heard
abbrev pub IsAsOf : AsOf → List Hearing → ℕ → Type 0
IsAsOf Newest heard now = ((heard ≡ []) × (now ≡ 0)) ⊎ ((newest : Moment) × IsNewest heard newest × (now ≡ newest.nanos))
IsAsOf (At moment) heard now = now ≡ moment.nanos
IsAsOf (Before moment) heard now = now ≡ moment.nanos

-- the text is right for the hearings, as of a moment that none of them is later than
pub record ReportsBy (Is : List Hearing → ℕ → List ℕ → Type 0) (heard : List Hearing) (as_of : AsOf) (text : List ℕ) : Type 0 where
  pub now : ℕ
  pub moment : IsAsOf as_of heard now
  pub latest : (hearing : Hearing) → Contains heard hearing → hearing.moment.nanos ≤ now
  pub reports : Is heard now text

-- The text is right for those hearings of all captures that count.
pub record SurveysBy (Is : List Hearing → ℕ → List ℕ → Type 0) (captures : List (List ℕ)) (as_of : AsOf)
    (summaries : List Summary) (text : List ℕ) : Type 0 where
  pub packets : List (List PacketAt)
  pub outcomes : List (List Outcome)
  pub read : AllRead captures packets outcomes summaries
  pub reports : ReportsBy Is (counted (filter_of as_of) outcomes) as_of text

-- the report is what the request asks for over all captures, and over some hearings
abbrev pub SurveysReport : List (List ℕ) → ReportRequest → List Summary → List ℕ → Type 0
SurveysReport captures request = SurveysBy (IsReportIn request.about request.form request.ask) captures request.as_of

abbrev pub ReportsRequest : ReportRequest → List Hearing → List ℕ → Type 0
ReportsRequest request heard = ReportsBy (IsReportIn request.about request.form request.ask) heard request.as_of

-- the text is the report that the request asks for over all captures, after its head
abbrev pub SurveysRequest : List (List ℕ) → ReportRequest → List Summary → List ℕ → Type 0
SurveysRequest captures request summaries text =
    (head : List ℕ) × ((report : List ℕ) × (text ≡ head ++ report)
    × IsHead request.form captures summaries head × SurveysReport captures request summaries report)

-- each capture has its packets and their outcomes, and its reading of the bytes that its reader had left
abbrev pub AllLeft : List (Option (List ℕ)) → List (List PacketAt) → List (List Outcome) → List Reading → Type 0
AllLeft [] [] [] [] = Unit {0}
AllLeft (left ∷ lefts) (packets ∷ more) (outcomes ∷ rest) (reading ∷ readings) =
    IsReadingOf left packets outcomes reading × AllLeft lefts more rest readings
AllLeft _ _ _ _ = ⊥

-- a hearer took the hearings of all these captures
abbrev pub HearsAll : {H : Type 0} → (H → H → List Hearing → Type 0) → H → H → List (List PacketAt) → List (List Outcome) → Type 0
HearsAll {H} Stands begun hearer packets outcomes = Stands begun hearer (all_hearings outcomes)

-- The readers listened to: each capture has its packets, which came to its outcomes, and its reading, and the packets of all
-- captures, with their outcomes, were heard.
pub record Listened {L : Type 0} (HeardAll : L → L → List (List PacketAt) → List (List Outcome) → Type 0)
    (lefts : List (Option (List ℕ))) (collector new_collector : L) (readings : List Reading) : Type 0 where
  pub packets : List (List PacketAt)
  pub outcomes : List (List Outcome)
  pub read : AllLeft lefts packets outcomes readings
  pub hears : (begun : L) (earlier : List (List PacketAt)) (before : List (List Outcome)) → HeardAll begun collector earlier before
      → HeardAll begun new_collector (earlier ++ packets) (before ++ outcomes)
