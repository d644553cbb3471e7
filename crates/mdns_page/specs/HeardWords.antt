-- How often each capture heard a record, in words.
use Rattle.std.specs.Prelude.{ℕ, ◌==◌, nat_lt, false, if◌then◌else◌, List, [], ◌++◌, codes, length, sum_by}
use Rattle.std.specs.List.{count_by}
use Rattle.mdns_lives.specs.declared.seconds_heard.SecondHeard.{SecondHeard}
use Rattle.mdns_page.specs.{Captures.{each_from, number_text}, Counts.{commas}, Lanes.{is_goodbye}}

-- how many of the seconds in which a record was heard have its goodbye; nothing where none has
abbrev pub goodbyes_text : ℕ → List ℕ
goodbyes_text count =
    if count == 0 then []
    else codes " (" ++ commas count ++ codes "&#160;" ++ (if count == 1 then codes "goodbye" else codes "goodbyes") ++ codes ")"

-- the number of a capture, in how many seconds it heard a record, and its goodbye; a comma before each but the first
unfoldable pub capture_times : (index : ℕ) → List SecondHeard → List ℕ
capture_times index seconds =
    (if index == 0 then [] else codes ", ") ++ number_text false index ++ codes " "
    ++ (if length seconds == 0 then codes "<b>never</b>"
    else commas (length seconds) ++ codes "&#215;" ++ goodbyes_text (count_by is_goodbye seconds))

-- how often the captures that heard a record did so together, and how many they are of all
unfoldable pub together_text : (count : ℕ) → List (List SecondHeard) → List ℕ
together_text count hearers =
    commas (sum_by (λ (seconds : List SecondHeard). length seconds) hearers) ++ codes "&#215;"
    ++ goodbyes_text (sum_by (count_by is_goodbye) hearers) ++ codes " in " ++ commas (length hearers)
    ++ codes " of " ++ commas count ++ codes " captures"

-- how often each capture heard a record; where there are many, how often those that heard it did so together
unfoldable pub heard_text : (count : ℕ) → List (List SecondHeard) → List ℕ
heard_text count heard =
    codes "<small>heard " ++ (if nat_lt 4 count then together_text count heard else each_from capture_times 0 heard) ++ codes "</small>"
