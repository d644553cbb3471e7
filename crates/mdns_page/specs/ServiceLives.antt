-- The lives of the service instances of captures (RFC 6763, sections 4 and 5).
use Rattle.std.specs.Prelude.{◌≡◌, ℕ, ◌≤◌, ◌&&◌, Bool, nat_lt, List, ◌++◌, [], map, Contains}
use Rattle.std.specs.Prelude.{Option, option_map, unwrap_or}
use Rattle.std.specs.{List.{filter, filter_map, flat_map, list_any}, List.Sorted.{IsStrictlySortedBy}}
use Rattle.mdns_capture.specs.Savefile.{PacketAt}
use Rattle.mdns_message.specs.{declared.{hearing.Hearing.{Hearing}, parts.SrvData.{SrvData}}, Parts.{srv_of}, Resource.{key_cmp}}
use Rattle.mdns_join.specs.declared.latest.Latest.{Latest}
use Rattle.mdns_cache.specs.Live.{key_of_last}
use Rattle.mdns_lives.specs.{Chronicle.{AreAllLives}, Window.{meets}}
use Rattle.mdns_lives.specs.declared.{life.Life.{Life}, window.Window.{Window}}
use Rattle.mdns_browse.specs.{Services.{body_of, instance_given}, ServiceLifeText.{ServiceLife, service_lives_text}}
use Rattle.mdns_survey.specs.declared.{summary.Summary.{Summary}}
use Rattle.mdns_survey.specs.{Filter.{counted, filter_of}, Head.{IsHead}, LivesAnswer.{captures_begin, captures_end}}
use Rattle.mdns_survey.specs.{Outcomes.{AllRead, Outcome}, Question.{Asked, asked_at_once}, Readings.{all_moments}}
use Rattle.mdns_page.specs.declared.timeline_records.TimelinePart.TheVariants.{Instances}
use Rattle.mdns_page.specs.declared.service_lives.ServiceLivesRequest.{ServiceLivesRequest}
use Rattle.mdns_page.specs.{TimelineRecords.{has_row, kept_of}, Servers.{servers_named}}

-- each of two lives begins before the other ends
abbrev pub lives_meet : Life → Life → Bool
lives_meet life other = nat_lt life.from.nanos other.until && nat_lt other.from.nanos life.until

-- the servers of an instance in a life of it: of its SRV records (RFC 6763, section 5), in key order, those with a life that meets it
abbrev pub servers_in : List (Latest × List Life) → Life → List (SrvData (List ℕ))
servers_in named life =
    filter_map (λ (row : Latest × List Life). srv_of (body_of row.0))
    (filter (λ (row : Latest × List Life). list_any (lives_meet life) row.1) named)

-- some lives of the instance of this name, which a record gives (section 4.1), each with the servers in it, of these SRV records
abbrev pub lives_named : Latest → List ℕ → List (Latest × List Life) → List Life → List ServiceLife
lives_named last name named lives =
    map (λ (life : Life). record { kind = last.resource.owner; name = name; life = life; servers = servers_in named life }) lives

-- the lives in the window of the instance that a record gives
abbrev pub lives_given : Window → List (Latest × List Life) → Latest × List Life → List ServiceLife
lives_given window kept row =
    unwrap_or (option_map (λ name. lives_named row.0 name (servers_named kept name) (filter (meets window) row.1)) (instance_given row.0)) []

-- The lives of the rows that a page about the same has of instances, in key order: of each those that meet the window.
abbrev pub service_lives : Window → List (Latest × List Life) → List ServiceLife
service_lives window kept = flat_map (lives_given window kept) (filter (has_row Instances window) kept)

-- ---- the walk

-- the records are in key order
abbrev pub AreRecords : List (Latest × List Life) → Type 0
AreRecords rows = IsStrictlySortedBy key_cmp (map (λ (row : Latest × List Life). key_of_last row.0) rows)

-- the life begins before the span ends, and the span before the life ends
abbrev pub meets_span : ℕ × ℕ → Life → Bool
meets_span span life = nat_lt span.0 life.until && nat_lt life.from.nanos span.1

abbrev pub IsWithin : ℕ × ℕ → Life → Type 0
IsWithin span life = (span.0 ≤ life.from.nanos) × (life.until ≤ span.1)

-- ---- the text

-- The text is that of these lives by the hearings, none of which is later than the end of the captures: a function of the lives of
-- all records.
pub record WritesServiceLives (request : ServiceLivesRequest) (heard : List Hearing) (begin : Option ℕ) (end : ℕ) (text : List ℕ)
    : Type 0 where
  pub latest : (hearing : Hearing) → Contains heard hearing → hearing.moment.nanos ≤ end
  pub rows : List (Latest × List Life)
  pub lives : AreAllLives heard rows
  pub written : text
      ≡ service_lives_text request.form request.window begin end (service_lives request.window (kept_of request.about rows))

-- The text is that of the lives by those hearings that count, after the head of a report.
pub record SurveysServiceLives (request : ServiceLivesRequest) (captures : List (List ℕ)) (summaries : List Summary) (text : List ℕ)
    : Type 0 where
  pub packets : List (List PacketAt)
  pub outcomes : List (List Outcome)
  pub read : AllRead captures packets outcomes summaries
  pub head : List ℕ
  pub is_head : IsHead request.form captures summaries head
  pub lives : List ℕ
  pub writes : WritesServiceLives request (counted (filter_of request.as_of) outcomes) (captures_begin request.as_of (all_moments packets))
      (captures_end request.as_of (all_moments packets)) lives
  pub whole : text ≡ head ++ lives

-- what is asked for
abbrev pub asked_service_lives : ServiceLivesRequest → Asked
asked_service_lives request = asked_at_once (SurveysServiceLives request) request.as_of request.about
