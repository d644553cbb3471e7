-- In which seconds captures heard a record.
use Rattle.std.specs.Prelude.{◌≡◌, nat_lt, Bool, List, length, map, Some}
use Rattle.std.specs.{BTreeMap.{BTreeMap, get}, Global.{Vec}, List.{list_any}, Ordering.{is_eq}}
use Rattle.mdns_message.specs.{declared.hearing.Hearing.{Hearing}, declared.key.Key.{Key}, Resource.{key_cmp}}
use Rattle.mdns_cache.specs.Live.{key_of_last}
use Rattle.mdns_browse.specs.Services.{AreEach}
use Rattle.mdns_lives.specs.{Heard.{AreSecondsHeard}, declared.seconds_heard.SecondHeard.{SecondHeard}}
use Rattle.mdns_page.specs.Timeline.{Row, seconds_lent, shown_seconds}

-- The seconds in which each capture heard the record, by its hearings; where there are many captures, only those of captures that
-- heard it. Hosts say a record at most once a second (RFC 6762, section 6).
pub record AreShownBy (many : Bool) (each : List (List Hearing)) (key : Key) (heard : List (List SecondHeard)) : Type 0 where
  pub all : List (List SecondHeard)
  pub are : AreEach (λ hearings seconds. AreSecondsHeard hearings key seconds) each all
  pub shown : heard ≡ shown_seconds many all

-- the row counts the captures, and has the seconds of its record; of more than four captures only of those that heard it
pub record IsCounted (each : List (List Hearing)) (row : Row) : Type 0 where
  pub count : row.capture_count ≡ length each
  pub heard : AreShownBy (nat_lt 4 (length each)) each (key_of_last row.last) row.heard

-- ---- as rows are made

-- the key is one of these
abbrev pub among : List Key → Key → Bool
among keys key = list_any (λ k. is_eq (key_cmp k key)) keys

-- what is given for a key is the seconds in which the captures that count for it heard its record
abbrev pub GivesSeconds : (many : Bool) → (Key → List (List Hearing)) → BTreeMap Key (Vec (Vec SecondHeard)) → Type 0
GivesSeconds many each by_record = (key : Key) (heard : Vec (Vec SecondHeard)) → get key_cmp by_record key ≡ Some heard
    → AreShownBy many (each key) key (map seconds_lent heard.items)
