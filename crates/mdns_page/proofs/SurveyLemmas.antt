-- The page on captures.
use Rattle.std.proofs.{Common.{ℕ, ◌≤◌, refl, sym, subst, List, [], ◌∷◌, arith, map, Option}, lemmas.Simd.{map-map}}
use Rattle.std.specs.Prelude.{Contains}
use Rattle.mdns_capture.specs.Savefile.{PacketAt}
use Rattle.mdns_message.specs.declared.hearing.Hearing.{Hearing}
use Rattle.mdns_join.specs.declared.latest.Latest.{Latest}
use Rattle.mdns_cache.specs.Live.{AreLiveRecords}
use Rattle.mdns_lives.specs.{Chronicle.{Chronicles}, Since.{AreLiveSince, all_since_rows}, declared.life.Life.{Life}, declared.window.Window.{Window}}
use Rattle.mdns_browse.specs.{declared.about.Subject.{Subject}, Services.{AreAscending, AreEach, GivenRow}}
use Rattle.mdns_survey.specs.{declared.reading.Reading.{Reading}, declared.request.AsOf.{AsOf}, Outcomes.{Outcome}}
use Rattle.mdns_survey.specs.{Filter.{counted, counted_each, filter_of}, Question.{HearsReaders, IsAnswer}}
use Rattle.mdns_survey.specs.{Readings.{all_moments, summaries_of}, Surveys.{AllLeft}}
use Rattle.mdns_cache.proofs.StandsPartLemmas.{Contains-cases, Contains-head, Contains-later}
use Rattle.mdns_listeners.specs.Groups.{Grouped}
use Rattle.mdns_page.specs.{Axis.{IsAxis}, ByListener.{HoldsLives, all_of, hearings_by}, Captures.{Comparison}, Collected.{Compares}}
use Rattle.mdns_page.specs.declared.{axis.Axis.{Axis}, listener_lives.ListenerLives.{ListenerLives}}
use Rattle.mdns_page.specs.Page.{AreLiveGiven, IsSinceKnown, WritesPage, asked_page, given_of_since, live_given, record_given}
use Rattle.mdns_page.proofs.ByListenerLemmas.{counted-in}

-- what holds of the value of each element
mapped-all : {X Y : Type 0} (f : X → Y) (P : Y → Type 0) (xs : List X) → ((x : X) → Contains xs x → P (f x)) → (y : Y)
    → Contains (map f xs) y → P y
mapped-all f P [] each y among = absurd (omega (arith, among.1))
mapped-all f P (x ∷ xs) each y among =
    grind (arith, Contains-cases, Contains-head, Contains-later, mapped-all f P xs (λ z within. each z (Contains-later x xs z within)) y)

-- ---- what was live

module _ (heard : List Hearing) (axis : Axis) (rows : List (Latest × List Life))
    (are : AreLiveSince heard axis.now.nanos (all_since_rows axis.now.nanos rows)) where
  -- the last hearings of live records are in key order
  pub live-ascending : AreAscending (map (λ (row : GivenRow). row.last) (live_given axis rows))
  live-ascending = grind (arith, map-map)

  pub live-since : AreLiveGiven heard axis.now.nanos (live_given axis rows)
  live-since =
      let since = all_since_rows axis.now.nanos rows in
      record {
        records = subst (AreLiveRecords heard axis.now.nanos) (sym (map-map record_given given_of_since since)) are.records;
        since = mapped-all given_of_since (λ given. IsSinceKnown heard axis.now.nanos given.last given.since) since
            (λ row among. (row.1, refl, are.since row among));
      }

-- ---- the page on captures

module _ {Heard : List (List PacketAt) → List (List Outcome) → Type 0} (names : List (List ℕ)) (groups : Grouped)
    (about : List Subject) (window : Window) (as_of : AsOf) (lefts : List (Option (List ℕ))) (readings : List Reading) (lives : ListenerLives)
    (comparison : Comparison) (axis : Axis) (text : List ℕ) (hears : HearsReaders Heard lefts readings)
    (holds : HoldsLives groups (counted_each (filter_of as_of) hears.outcomes) lives)
    (compares : Compares groups hears.packets hears.outcomes comparison) (is_axis : IsAxis as_of window (all_moments hears.packets) axis)
    (none_later : (heard : List Hearing) → Chronicles (all_of lives) heard
    → (hearing : Hearing) → Contains heard hearing → hearing.moment.nanos ≤ axis.now.nanos)
    (written : (each : List (List Hearing)) (heard : List Hearing) → AreEach Chronicles lives.captures.items each
    → Chronicles (all_of lives) heard → ((hearing : Hearing) → Contains heard hearing → hearing.moment.nanos ≤ axis.now.nanos)
    → WritesPage about names groups readings comparison each heard axis text) where
  pub surveys-page : IsAnswer (asked_page names groups about window as_of) lefts (summaries_of readings) text
  surveys-page captures known =
      let heard = counted (filter_of as_of) hears.outcomes in
      let all = subst (Chronicles (all_of lives)) (sym (counted-in (filter_of as_of) hears.outcomes)) holds.all in
      record {
        packets = hears.packets;
        outcomes = hears.outcomes;
        readings = readings;
        read = subst (λ (ls : List (Option (List ℕ))). AllLeft ls hears.packets hears.outcomes readings) known hears.read;
        summed = refl;
        axis = axis;
        is_axis = is_axis;
        comparison = comparison;
        compares = compares;
        writes = written (hearings_by groups (counted_each (filter_of as_of) hears.outcomes)) heard holds.captures all
            (none_later heard all);
      }

-- WHAT FUNCTIONS ARE PROVED BY

pub ruleset for_live_of = (live-ascending)
