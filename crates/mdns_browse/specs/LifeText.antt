-- The lives of records as text.
use Rattle.std.specs.Prelude.{◌≡◌, ℕ, Bool, true, false, nat_lt, ◌==◌, if◌then◌else◌, ◌∷◌, ◌++◌, length, map, codes, Option, None, Some, option_map}
use Rattle.std.specs.{Prelude.{List, [], unwrap_or}, Fmt.{decimal}, List.{flat_map}}
use Rattle.mdns_capture.specs.{Text.{moment_text}, declared.moment.Moment.{Moment}}
use Rattle.mdns_message.specs.{Resource.{type_name, type_of}, declared.resource.Resource.{Resource}}
use Rattle.mdns_join.specs.declared.latest.Latest.{Latest}
use Rattle.mdns_lives.specs.declared.life.{Life.{Life}, EndReason.{EndReason}, EndReason.TheVariants.{Expired, Goodbye, Flushed}}
use Rattle.mdns_lives.specs.declared.{life.Which.{Which}, life.Which.TheVariants.{All, Changes}, window.Window.{Window}}
use Rattle.mdns_browse.specs.declared.{report.Form.{Form}, report.Form.TheVariants.{Csv, Lines, Json, Pretty}, life_text.Layout.{Layout}}
use Rattle.mdns_browse.specs.{Columns.{padded, widest}, RecordShown.{shown_record}, RecordText.{resource_text}}
use Rattle.mdns_browse.specs.Csv.{Moment as MomentField, Number, Text, csv_line, resource_fields}
use Rattle.mdns_browse.specs.Json.{hearing_members, json_object, parted, resource_members, text_member}
use Rattle.people_text.specs.MomentText.{millis_text, time_text}

-- why a life ended, as a word
abbrev pub reason_text : EndReason → List ℕ
reason_text Expired = codes "expired"
reason_text Goodbye = codes "goodbye"
reason_text Flushed = codes "flushed"

-- how a life ends, as a word: `live` if it goes on after the end of the captures, which is in nanoseconds
abbrev pub end_text : ℕ → Life → List ℕ
end_text end life = if nat_lt end life.until then codes "live" else reason_text life.reason

-- what is said for people of a life that goes on, and will end for this reason unless the record is heard again
abbrev pub open_text : EndReason → List ℕ
open_text Expired = codes "live"
open_text Goodbye = codes "live, said goodbye"
open_text Flushed = codes "live, flushed"

-- how a life ends, for people, or what is said of one that goes on
abbrev pub end_words : EndReason → Bool → List ℕ
end_words Expired goes_on = if goes_on then codes "live" else codes "expired"
end_words Goodbye goes_on = if goes_on then codes "live, goodbye at " else codes "goodbye at "
end_words Flushed goes_on = if goes_on then codes "live, flushed" else codes "flushed"

-- the time of day at which a goodbye was said, which is that of a life's last hearing (RFC 6762, section 10.1)
abbrev pub said_at : EndReason → ℕ → List ℕ
said_at Goodbye nanos = time_text nanos
said_at _ nanos = []

-- the goodbye that was taken back, if there is one, with the time of day at which it was said
abbrev pub taken_back_text : Option Moment → List ℕ
taken_back_text None = []
taken_back_text (Some goodbye) = codes ", goodbye at " ++ time_text goodbye.nanos ++ codes " taken back"

-- how a life ends, for people: whether it goes on after the end of the captures, and its goodbyes with the time of day
abbrev pub end_shown : ℕ → Life → List ℕ
end_shown end life =
    end_words life.reason (nat_lt end life.until) ++ said_at life.reason life.last.moment.nanos ++ taken_back_text life.taken_back

-- when a life began, the TTL and the moment of its last hearing, when it ends and how
unfoldable pub life_words : ℕ → Life → List ℕ
life_words end life =
    codes " from " ++ moment_text life.from.nanos
    ++ codes " ttl " ++ decimal life.last.ttl ++ codes " heard " ++ moment_text life.last.moment.nanos
    ++ codes " until " ++ moment_text life.until ++ 32 ∷ end_text end life

-- what an object says of a life: what that of a live record says of the last hearing, with `from` before it and `end` last
abbrev pub life_members : ℕ → Life → List (List ℕ)
life_members end life =
    text_member (codes "from") (moment_text life.from.nanos) ∷ hearing_members life.last.ttl life.last.moment.nanos life.until
    ++ text_member (codes "end") (end_text end life) ∷ []

-- a life as an object
unfoldable pub life_json : ℕ → Resource → Life → List ℕ
life_json end resource life = json_object (resource_members resource ++ life_members end life) ++ 10 ∷ []

-- the beginning of that object, with what it says of the record
abbrev pub resource_json : Resource → List ℕ
resource_json resource = 123 ∷ parted true (resource_members resource)

-- the rest of it, with what it says of the life
abbrev pub life_rest : ℕ → Life → List ℕ
life_rest end life = parted false (life_members end life) ++ codes "}\n"

-- ---- comma-separated values

abbrev pub lives_header : List ℕ
lives_header = codes "owner,type,data,from,ttl,heard,until,end\r\n"

-- a life as a line: that of a live record, with `from` before `ttl`, and `end` last
unfoldable pub life_csv : ℕ → Resource → Life → List ℕ
life_csv end resource life =
    csv_line (resource_fields resource ++ MomentField life.from.nanos ∷ Number life.last.ttl ∷ MomentField life.last.moment.nanos
    ∷ MomentField life.until ∷ Text (end_text end life) ∷ [])

-- ---- columns

-- the lives of rows
abbrev pub lives_in : List (Latest × List Life) → List Life
lives_in rows = flat_map (λ row. row.1) rows

-- how wide the column is that says how lives end
abbrev pub end_width : ℕ → List (Latest × List Life) → ℕ
end_width end rows = widest (codes "END" ∷ map (end_shown end) (lives_in rows))

-- when a life ends, of 26 bytes: in parentheses if it goes on after the end of the captures, since that is a forecast
unfoldable pub until_shown : ℕ → Life → List ℕ
until_shown end life =
    if nat_lt end life.until then codes "(" ++ millis_text life.until ++ codes ")" else codes " " ++ millis_text life.until ++ codes " "

-- the first columns of a life: from when until when, each of 24 bytes, and how it ended
abbrev pub life_columns : ℕ → ℕ → Life → List ℕ
life_columns width end life =
    millis_text life.from.nanos ++ codes " " ++ until_shown end life ++ codes " " ++ padded width (end_shown end life)

-- the columns after these: the type, and the record
abbrev pub resource_columns : Resource → List ℕ
resource_columns resource =
    codes "  " ++ padded 4 (type_name (type_of resource.body)) ++ codes "  " ++ shown_record resource ++ 10 ∷ []

-- a life in columns
unfoldable pub life_row : ℕ → ℕ → Resource → Life → List ℕ
life_row width end resource life = life_columns width end life ++ resource_columns resource

-- what so many of them are called
abbrev pub called : Which → ℕ → List ℕ
called All count = if count == 1 then codes " life between " else codes " lives between "
called Changes count =
    if count == 1 then codes " life of record sets that changed, between "
    else codes " lives of record sets that changed, between "

-- the nanoseconds of a moment, if there is one
abbrev pub nanos_if_some : Option Moment → Option ℕ
nanos_if_some moment = option_map (λ (moment : Moment). moment.nanos) moment

-- the moment that bounds the window, or else the captures
unfoldable pub bound_shown : Option Moment → ℕ → ℕ
bound_shown bound other = unwrap_or (nanos_if_some bound) other

abbrev pub bounds_shown : Window → (begin end : ℕ) → List ℕ
bounds_shown window begin end =
    millis_text (bound_shown window.since begin) ++ codes " and " ++ millis_text (bound_shown window.until end)

-- an empty line, and the heads of the columns, of which `last` are those after END; nothing where there are no lives
abbrev pub heads_shown : (count width : ℕ) → List ℕ → List ℕ
heads_shown count width last =
    if count == 0 then []
    else 10 ∷ (codes "FROM                      UNTIL                     " ++ padded width (codes "END") ++ last)

-- how many lives there are, what they are called, and between which moments, and the heads of the columns; nothing where there is no
-- earliest moment, as in captures without packets
unfoldable pub lives_heading : (called last : List ℕ) → Window → (count width : ℕ) → Option ℕ → ℕ → List ℕ
lives_heading called last window count width None end = []
lives_heading called last window count width (Some begin) end =
    decimal count ++ called ++ bounds_shown window begin end ++ 10 ∷ heads_shown count width last

-- ---- forms

-- what stands before the lives; in columns also the bounds, and the width of the column that says how they end
abbrev pub lives_head : Which → Window → Form → (count width : ℕ) → Option ℕ → ℕ → List ℕ
lives_head which window Pretty count width begin end =
    lives_heading (called which count) (codes "  TYPE  RECORD\n") window count width begin end
lives_head which window Csv count width begin end = lives_header
lives_head which window _ count width begin end = []

-- a life in that form
abbrev pub life_text : Form → ℕ → ℕ → Resource → Life → List ℕ
life_text Lines width = λ end resource life. resource_text resource ++ life_words end life ++ 10 ∷ []
life_text Json width = life_json
life_text Pretty width = life_row width
life_text Csv width = life_csv

-- the lives of a record in that form, spelled as in its last hearing
abbrev pub lives_text : Form → ℕ → ℕ → Latest × List Life → List ℕ
lives_text form width end row = flat_map (life_text form width end row.0.resource) row.1

-- all of it: `begin` is the earliest moment, if there is one, and `end` the end of the captures
abbrev pub lives_report : Which → Window → Form → Option ℕ → ℕ → List (Latest × List Life) → List ℕ
lives_report which window form begin end rows =
    lives_head which window form (length (lives_in rows)) (end_width end rows) begin end
    ++ flat_map (lives_text form (end_width end rows) end) rows

-- how many lives the rows have, and how wide the column is that says how they end
pub record IsLayout (end : ℕ) (rows : List (Latest × List Life)) (layout : Layout) : Type 0 where
  pub count : layout.count ≡ length (lives_in rows)
  pub width : layout.width ≡ end_width end rows
