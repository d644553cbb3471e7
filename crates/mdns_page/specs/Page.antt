-- The page on captures.
use Rattle.std.specs.Prelude.{◌≡◌, ℕ, ◌+◌, ◌≤◌, Bool, false, List, [], ◌∷◌, Option, Some, length, map, Contains}
use Rattle.std.specs.List.{filter}
use Rattle.mdns_capture.specs.Savefile.{PacketAt}
use Rattle.mdns_message.specs.declared.hearing.Hearing.{Hearing}
use Rattle.mdns_join.specs.declared.latest.Latest.{Latest}
use Rattle.mdns_cache.specs.Live.{AreLiveRecords, key_of_last}
use Rattle.mdns_lives.specs.{declared.life.Life.{Life}, declared.window.Window.{Window}, Chronicle.{AreAllLives}, Since.{IsLiveSince, all_since_rows}}
use Rattle.mdns_browse.specs.{declared.about.Subject.{Subject}, Services.{GivenRow}}
use Rattle.mdns_survey.specs.declared.{reading.Reading.{Reading}, request.AsOf.{AsOf}, summary.Summary.{Summary}}
use Rattle.mdns_survey.specs.{Outcomes.{Outcome}, Filter.{counted, counted_each, filter_of}, Readings.{all_moments, lost_in, summaries_of}}
use Rattle.mdns_survey.specs.{Question.{Asked, asked_at_once}, Surveys.{AllLeft}}
use Rattle.mdns_listeners.specs.Groups.{Grouped}
use Rattle.mdns_page.specs.declared.{axis.Axis.{Axis}, timeline_records.TimelinePart.TheVariants.{Addresses, Instances, Names}}
use Rattle.mdns_page.specs.{Axis.{IsAxis}, ByListener.{facts_by, hearings_by}, Captures.{Comparison}, Collected.{Compares}}
use Rattle.mdns_page.specs.{TimelineRecords.{AreRows, is_drawn, kept_of, looked_up}, LiveSection.{live_text}, SkippedSection.{skipped_text}}
use Rattle.mdns_page.specs.{Document.{page}, Html.{isolated}, Lead.{Ended, known_of}, Timeline.{Row, is_large, is_open}}

-- ---- what was live at the end

-- a live record with its end and since when it has been live, as one that may give an instance
abbrev pub given_of_since : (Latest × ℕ) × ℕ → GivenRow
given_of_since row = record { last = row.0.0; end = row.0.1; since = Some row.1 }

-- its last hearing with its end
abbrev pub record_given : GivenRow → Latest × ℕ
record_given given = (given.last, given.end)

-- the record has been live since then
abbrev pub IsSinceKnown : List Hearing → ℕ → Latest → Option ℕ → Type 0
IsSinceKnown heard now last since = (from : ℕ) × (since ≡ Some from) × IsLiveSince heard now (key_of_last last) from

-- the live records, each with since when it has been live
pub record AreLiveGiven (heard : List Hearing) (now : ℕ) (rows : List GivenRow) : Type 0 where
  pub records : AreLiveRecords heard now (map record_given rows)
  pub since : (row : GivenRow) → Contains rows row → IsSinceKnown heard now row.last row.since

-- the records that are live at the end, each with its end and since when it has been live
abbrev pub live_given : Axis → List (Latest × List Life) → List GivenRow
live_given axis rows = map given_of_since (all_since_rows axis.now.nanos rows)

-- what was live at the end: the instances of these that are about the subjects by all last hearings, with their servers and texts
-- among all records that are live then
abbrev pub live_at_end : List Subject → Axis → (opened : Bool) → List (Latest × List Life) → List ℕ
live_at_end about axis opened rows =
    let given = live_given axis rows in
    live_text isolated axis opened (map (λ (row : GivenRow). row.last) given)
    (filter (λ row. is_drawn about (looked_up about rows) row.last) given)

-- the endings of files with these names and readings
abbrev pub endings_of : List (List ℕ) → List Reading → List Ended
endings_of (name ∷ names) (reading ∷ readings) = record { name = name; ending = reading.summary.ending } ∷ endings_of names readings
endings_of _ _ = []

-- The text is the page on files with these names, listeners and readings, which compare so, by the hearings of each listener, none of
-- which is later than their end: but for the seconds in which each heard a record, all that it shows is a function of the lives
-- of all records.
pub record WritesPage (about : List Subject) (names : List (List ℕ)) (groups : Grouped) (readings : List Reading)
    (comparison : Comparison) (each : List (List Hearing)) (heard : List Hearing) (axis : Axis) (text : List ℕ) : Type 0 where
  pub latest : (hearing : Hearing) → Contains heard hearing → hearing.moment.nanos ≤ axis.now.nanos
  pub rows : List (Latest × List Life)
  pub lives : AreAllLives heard rows
  pub instances : List Row
  pub are_instances : AreRows Instances axis.window false each (kept_of about rows) instances
  pub addresses : List Row
  pub are_addresses : AreRows Addresses axis.window (is_large (length instances)) each (kept_of about rows) addresses
  pub others : List Row
  pub are_others : AreRows Names axis.window (is_large (length instances)) each (kept_of about rows) others
  pub written : text ≡ page isolated (record {
    axis = axis;
    about = about;
    captures = facts_by groups readings;
    files = endings_of names readings;
    comparison = comparison;
    lost = lost_in readings;
    rows = instances;
    addresses = addresses;
    names = others;
    known = map known_of (kept_of about rows);
    live = live_at_end about axis (is_open (length instances + length addresses + length others)) rows;
    skipped = skipped_text readings;
  })

-- The text is the page on all files, of the lives in the window, by those hearings that count.
pub record SurveysPage (names : List (List ℕ)) (groups : Grouped) (about : List Subject) (window : Window) (as_of : AsOf) (captures : List (List ℕ))
    (summaries : List Summary) (text : List ℕ) : Type 0 where
  pub packets : List (List PacketAt)
  pub outcomes : List (List Outcome)
  pub readings : List Reading
  pub read : AllLeft (map Some captures) packets outcomes readings
  pub summed : summaries ≡ summaries_of readings
  pub axis : Axis
  pub is_axis : IsAxis as_of window (all_moments packets) axis
  pub comparison : Comparison
  pub compares : Compares groups packets outcomes comparison
  pub writes : WritesPage about names groups readings comparison (hearings_by groups (counted_each (filter_of as_of) outcomes))
      (counted (filter_of as_of) outcomes) axis text

-- a page on files with these names and listeners
abbrev pub asked_page : List (List ℕ) → Grouped → List Subject → Window → AsOf → Asked
asked_page names groups about window as_of = asked_at_once (SurveysPage names groups about window as_of) as_of about
