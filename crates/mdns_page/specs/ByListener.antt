-- Captures by listener: all files of a listener are one capture.
use Rattle.std.specs.Prelude.{◌≡◌, ◌≢◌, ◌<◌, ◌==◌, ℕ, suc, min, not, if◌then◌else◌, unwrap_or, Option, None, length, map, slice_index_or}
use Rattle.std.specs.Prelude.{List, [], ◌∷◌, ◌++◌}
use Rattle.std.specs.List.{All, find, flat_map, fold, range_with_len, sum_by}
use Rattle.mdns_capture.specs.{declared.savefile.Ending.{Ending}, declared.savefile.Ending.TheVariants.{Whole}, Savefile.{PacketAt}}
use Rattle.mdns_message.specs.declared.hearing.Hearing.{Hearing}
use Rattle.mdns_lives.specs.Chronicle.{Accounts, Chronicles}
use Rattle.mdns_browse.specs.Services.{AreEach}
use Rattle.mdns_survey.specs.declared.{filter.Filter.{Filter}, reading.Reading.{Reading}, reading.Span.{Span}}
use Rattle.mdns_survey.specs.{Filter.{counted_each}, Outcomes.{Outcome}, ProgramLines.{is_whole}, Span.{joined_spans}}
use Rattle.mdns_listeners.specs.{Groups.{Grouped}, Listeners.{listener_at}}
use Rattle.mdns_page.specs.{Captures.{Facts}, declared.captures.CaptureCounts.{CaptureCounts}}
use Rattle.mdns_page.specs.declared.listener_lives.ListenerLives.{ListenerLives}

-- what there is of a listener's files, in their order, where there is one thing of each file, the first of which stands at that place
abbrev pub files_of : {X : Type 0} → List ℕ → (place listener : ℕ) → List X → List X
files_of of place listener [] = []
files_of of place listener (x ∷ xs) =
    if listener_at of place == listener then x ∷ files_of of (suc place) listener xs else files_of of (suc place) listener xs

-- ---- what is told of a listener's files

-- the sums of their counts
abbrev pub counts_of : List Reading → CaptureCounts
counts_of readings = record {
  packets = sum_by (λ (reading : Reading). reading.summary.tally.packets) readings;
  skipped = sum_by (λ (reading : Reading). reading.summary.tally.skipped) readings;
  refused = sum_by (λ (reading : Reading). reading.summary.tally.refused) readings;
  messages = sum_by (λ (reading : Reading). reading.summary.tally.messages) readings;
  hearings = sum_by (λ (reading : Reading). reading.summary.tally.hearings) readings;
}

-- how the first of them that isn't whole ends
abbrev pub ending_of : List Reading → Ending
ending_of readings =
    unwrap_or (find (λ (ending : Ending). not (is_whole ending)) (map (λ (reading : Reading). reading.summary.ending) readings)) Whole

-- from the earliest packet to the latest; none where there are no packets
abbrev pub span_of : List Reading → Option Span
span_of readings = fold joined_spans None (map (λ (reading : Reading). reading.span) readings)

-- of files of that name
abbrev pub facts_of : List ℕ → List Reading → Facts
facts_of name readings =
    record { name = name; counts = counts_of readings; ending = ending_of readings; span = span_of readings }

-- of each listener, in order
abbrev pub facts_at : Grouped → List Reading → (listener : ℕ) → Facts
facts_at groups readings listener = facts_of (slice_index_or groups.names listener []) (files_of groups.by_file 0 listener readings)

abbrev pub facts_by : Grouped → List Reading → List Facts
facts_by groups readings = map (facts_at groups readings) (range_with_len 0 (length groups.names))

-- ---- what listeners heard

-- the hearings of a listener's files, by those of each file
abbrev pub hearings_of : List ℕ → List (List Hearing) → (listener : ℕ) → List Hearing
hearings_of of each listener = flat_map (λ (hearings : List Hearing). hearings) (files_of of 0 listener each)

-- the same of each listener
abbrev pub hearings_by : Grouped → List (List Hearing) → List (List Hearing)
hearings_by groups each = map (hearings_of groups.by_file each) (range_with_len 0 (length groups.names))

-- ---- while files are read

-- the hearings of all: those of the one listener, or those that were joined
abbrev pub all_in : List Accounts → Accounts → Accounts
all_in (capture ∷ []) joined = capture
all_in captures joined = joined

abbrev pub all_of : ListenerLives → Accounts
all_of lives = all_in lives.captures.items lives.joined

-- what a file heard was added to what had been heard
abbrev pub AddsTo : (old file new : Accounts) → Type 0
AddsTo old file new =
    (heard others : List Hearing) → Chronicles old heard → Chronicles file others → Chronicles new (heard ++ others)

-- It was added to what the listener had heard, if there is such a listener.
pub record AddsAt (listener : ℕ) (old : List Accounts) (file : Accounts) (new : List Accounts) : Type 0 where
  pub count : length new ≡ length old
  pub own : (d : Accounts) → listener < length old → AddsTo (slice_index_or old listener d) file (slice_index_or new listener d)
  pub others : (i : ℕ) (d : Accounts) → i ≢ listener → slice_index_or new i d ≡ slice_index_or old i d

-- The first files heard these hearings, and each listener's are those of its files.
pub record HoldsLives (groups : Grouped) (each : List (List Hearing)) (lives : ListenerLives) : Type 0 where
  pub within : All (λ listener. listener < length groups.names) groups.by_file
  pub by_file : lives.by_file.items ≡ groups.by_file
  pub place : lives.place ≡ min (length each) (length groups.by_file)
  pub captures : AreEach Chronicles lives.captures.items (hearings_by groups each)
  pub all : Chronicles (all_of lives) (flat_map (λ (hearings : List Hearing). hearings) each)

-- one more file was heard
abbrev pub AddsFile : List Hearing → (old new : ListenerLives) → Type 0
AddsFile heard old new =
    (groups : Grouped) (each : List (List Hearing)) → HoldsLives groups each old → HoldsLives groups (each ++ heard ∷ []) new

-- the hearings of files that count were heard, to get from the first state to the second
abbrev pub HearsFiles : Filter → ListenerLives → ListenerLives → List (List PacketAt) → List (List Outcome) → Type 0
HearsFiles which begun now packets outcomes =
    (groups : Grouped) → HoldsLives groups [] begun → HoldsLives groups (counted_each which outcomes) now
