-- Which hearings of captures count.
use Rattle.std.specs.{Prelude.{Bool, true, nat_lt, List, Some, None, map, option_map, unwrap_or}, List.{filter, flat_map}}
use Rattle.mdns_capture.specs.declared.moment.Moment.{Moment}
use Rattle.mdns_message.specs.declared.hearing.Hearing.{Hearing}
use Rattle.mdns_survey.specs.declared.{filter.Filter.{Filter}, request.AsOf.{AsOf}, request.AsOf.TheVariants.{Before}}
use Rattle.mdns_survey.specs.Outcomes.{Outcome, hearings_in}

-- with `Before` the hearings earlier than its moment, and else all
abbrev pub filter_of : AsOf → Filter
filter_of (Before before) = record { before = Some before }
filter_of _ = record { before = None }

-- a hearing at that moment counts
abbrev pub counts : Filter → Moment → Bool
counts which moment = unwrap_or (option_map (λ (before : Moment). nat_lt moment.nanos before.nanos) which.before) true

-- those of some hearings that count
abbrev pub selected : Filter → List Hearing → List Hearing
selected which heard = filter (λ hearing. counts which hearing.moment) heard

-- the hearings of each capture that count
abbrev pub counted_each : Filter → List (List Outcome) → List (List Hearing)
counted_each which outcomes = map (λ capture. filter (λ hearing. counts which hearing.moment) (hearings_in capture)) outcomes

-- the hearings of all captures that count, in order and as often as they come
abbrev pub counted : Filter → List (List Outcome) → List Hearing
counted which outcomes = flat_map (λ capture. filter (λ hearing. counts which hearing.moment) (hearings_in capture)) outcomes
