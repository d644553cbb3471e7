-- Reports in readable columns, for people. Each column but the last has ASCII alone and is padded with spaces, so that the
-- columns stand straight whatever the widths of other characters.
use Rattle.std.specs.Prelude.{ℕ, zero, suc, ◌+◌, ◌-◌, ◌==◌, max, nat_lt, if◌then◌else◌, List, [], ◌∷◌, ◌++◌, length, map, codes}
use Rattle.std.specs.{Fmt.{decimal}, List.{flat_map}, Cmp.Lexicographic.{slice_cmp}, Ordering.{is_eq, nat_cmp}}
use Rattle.dns_name.specs.Name.{folded}
use Rattle.mdns_message.specs.declared.body.RecordData.TheVariants as body
use Rattle.mdns_message.specs.Resource.{type_name, type_of}
use Rattle.mdns_join.specs.declared.latest.Latest.{Latest}
use Rattle.mdns_cache.specs.Live.{life_of}
use Rattle.people_text.specs.{MomentText.{duration_text, millis_text, seconds_text}, Shown.{name_shown}}
use Rattle.mdns_browse.specs.{declared.instance.Server.{Server}, Services.{GivenRow, InstanceRow}}
use Rattle.mdns_browse.specs.RecordShown.{shown_instance, shown_record, shown_strings, shown_words, spaced_wide}

-- ---- columns

-- spaces one after another
unfoldable pub spaces : ℕ → List ℕ
spaces zero = []
spaces (suc n) = spaces n ++ 32 ∷ []

-- a text, and spaces up to a width
unfoldable pub padded : ℕ → List ℕ → List ℕ
padded width text = text ++ spaces (width - length text)

-- the greatest length of some texts
unfoldable pub widest : List (List ℕ) → ℕ
widest [] = 0
widest (text ∷ texts) = max (length text) (widest texts)

-- how much longer a live record lives, by its last hearing and its end: `goodbye` where it has said so (RFC 6762, section
-- 10.1), and `flushed` where a flush ends it before its life has run out (section 10.2)
unfoldable pub time_left_text : ℕ → Latest × ℕ → List ℕ
time_left_text now (last, end) =
    if last.ttl == 0 then codes "goodbye"
    else (if nat_lt end (last.moment.nanos + life_of last.ttl) then codes "flushed" else duration_text (end - now))

-- ---- what each report begins with

-- at which moment; nothing of the moment 0, as of which a report is where nothing was heard
unfoldable pub when_text : ℕ → List ℕ
when_text now = if now == 0 then [] else codes " at " ++ millis_text now

-- how many there are, and the moment
unfoldable pub heading : ℕ → List ℕ → List ℕ → ℕ → List ℕ
heading count one many now =
    decimal count ++ 32 ∷ (if count == 1 then one else many) ++ codes " live" ++ when_text now ++ 10 ∷ []

-- an empty line and a text, unless there are no values that the text is of
abbrev pub unless_none : {X : Type 0} → List X → List ℕ → List ℕ
unless_none [] text = []
unless_none (x ∷ xs) text = 10 ∷ text

-- ---- records

-- a line of a table: three columns, each padded to its width, and the last one, two spaces between them
abbrev pub table_line : (left heard kind : ℕ) → (first second third last : List ℕ) → List ℕ
table_line left heard kind first second third last =
    padded left first ++ codes "  " ++ padded heard second ++ codes "  " ++ padded kind third ++ codes "  " ++ last ++ 10 ∷ []

-- the line of a live record: how much longer it lives, when it was last heard, its type, and the record
unfoldable pub record_row : (left heard kind now : ℕ) → Latest × ℕ → List ℕ
record_row left heard kind now row =
    table_line left heard kind (time_left_text now row) (seconds_text row.0.moment.nanos) (type_name (type_of row.0.resource.body))
    (shown_record row.0.resource)

-- the heads of the columns
unfoldable pub record_heads : (left heard kind : ℕ) → List ℕ
record_heads left heard kind = table_line left heard kind (codes "LEFT") (codes "HEARD") (codes "TYPE") (codes "RECORD")

-- each column but the last is as wide as its widest text, that of the head included
unfoldable pub record_table : ℕ → List (Latest × ℕ) → List ℕ
record_table now rows =
    let left = widest (codes "LEFT" ∷ map (time_left_text now) rows) in
    let heard = widest (codes "HEARD" ∷ map (λ (row : Latest × ℕ). seconds_text row.0.moment.nanos) rows) in
    let kind = widest (codes "TYPE" ∷ map (λ (row : Latest × ℕ). type_name (type_of row.0.resource.body)) rows) in
    record_heads left heard kind ++ flat_map (record_row left heard kind now) rows

-- ---- types

unfoldable pub type_row : List ℕ → List ℕ
type_row name = name_shown name ++ 10 ∷ []

-- ---- instances

-- a line of words below an instance, each after two spaces: the first stands two spaces after the column of the name
unfoldable pub words_line : ℕ → List (List ℕ) → List ℕ
words_line width words = spaces width ++ codes "    " ++ spaced_wide words ++ 10 ∷ []

-- the line of a server, and of its addresses
abbrev pub server_line : ℕ → Server → List ℕ
server_line width server =
    words_line width
    (shown_words (body.Srv server.priority server.weight server.port server.target) ++ flat_map shown_words server.addresses)

-- the line of a TXT record; none where it has no words
abbrev pub line_of_some : ℕ → List (List ℕ) → List ℕ
line_of_some width [] = []
line_of_some width (word ∷ words) = words_line width (word ∷ words)

abbrev pub text_row : ℕ → List ℕ → List ℕ
text_row width text = line_of_some width (shown_strings text)

-- the line of a type, after an empty line; nothing where the instance before, of which this is the type's name, is of that
-- type too. Nothing is before the first instance, and no name is empty
abbrev pub type_begin : List ℕ → List ℕ → List ℕ
type_begin before owner = if is_eq (slice_cmp nat_cmp (folded before) (folded owner)) then [] else 10 ∷ type_row owner

-- the line of an instance: how much longer the record lives that gives it, and its name
unfoldable pub instance_row : (width now : ℕ) → GivenRow → List ℕ → List ℕ
instance_row width now given name =
    codes "  " ++ padded width (time_left_text now (given.last, given.end)) ++ codes "  " ++ shown_instance name ++ 10 ∷ []

-- the lines of an instance: its own, its servers, or one line that says that it has none, and its texts
unfoldable pub instance_rows : (width now : ℕ) → InstanceRow → List ℕ
instance_rows width now row =
    instance_row width now row.given row.instance.name
    ++ (flat_map (server_line width) row.instance.servers
    ++ (if length row.instance.servers == 0 then words_line width (codes "unresolved" ∷ []) else [])
    ++ flat_map (text_row width) row.instance.texts)

-- the lines of instances, by type; `before` is the type of the instance before
abbrev pub rows_by_type : (width now : ℕ) → List ℕ → List InstanceRow → List ℕ
rows_by_type width now before [] = []
rows_by_type width now before (row ∷ rows) =
    type_begin before row.given.last.resource.owner ++ instance_rows width now row
    ++ rows_by_type width now row.given.last.resource.owner rows

-- the line of a live record that points from a service to no instance's name: what is left, and that name
unfoldable pub other_row : (width now : ℕ) → Latest × ℕ → List ℕ
other_row width now row =
    codes "  " ++ padded width (time_left_text now row) ++ spaced_wide (shown_words row.0.resource.body) ++ 10 ∷ []

-- the lines of these records, below what they are
abbrev pub others_pretty : (width now : ℕ) → List (Latest × ℕ) → List ℕ
others_pretty width now others =
    unless_none others (codes "names that aren't one label and the type\n" ++ flat_map (other_row width now) others)

-- the first column is as wide as its widest text in any of these lines
abbrev pub instances_pretty : ℕ → List InstanceRow → List (Latest × ℕ) → List ℕ
instances_pretty now rows others =
    let width = max (widest (map (λ (row : InstanceRow). time_left_text now (row.given.last, row.given.end)) rows))
    (widest (map (time_left_text now) others)) in
    heading (length rows) (codes "instance") (codes "instances") now
    ++ rows_by_type width now [] rows ++ others_pretty width now others
