-- The timeline.
use Rattle.std.specs.Prelude.{ℕ, ◌+◌, ◌-◌, ◌==◌, nat_le, nat_lt, Bool, false, if◌then◌else◌, Option, option_map, unwrap_or}
use Rattle.std.specs.{Prelude.{List, [], ◌++◌, codes, length, map, slice_get}, BTreeMap.{BTreeMap, get}, Global.{Vec}, List.{count_by, filter, flat_map}}
use Rattle.mdns_message.specs.{Parts.{content_of}, declared.{key.Key.{Key}, parts.Content.{Content}}, Resource.{key_cmp}}
use Rattle.mdns_message.specs.declared.parts.Content.TheVariants as content
use Rattle.mdns_join.specs.declared.latest.Latest.{Latest}
use Rattle.mdns_lives.specs.declared.{life.Life.{Life}, lives.RecordLives.{RecordLives}, seconds_heard.SecondHeard.{SecondHeard}}
use Rattle.people_text.specs.Shown.{name_shown}
use Rattle.mdns_browse.specs.RecordShown.{shown_address, shown_instance}
use Rattle.mdns_cache.specs.{LentRecords.{last_lent}, Live.{key_of_last}}
use Rattle.mdns_lives.specs.{Chronicle.{Accounts}, Heard.{seconds_held}}
use Rattle.mdns_page.specs.{Counts.{commas, count_text}, Group.{axis_picture, first_owner, group, grouped, item}, HeardWords.{heard_text}}
use Rattle.mdns_page.specs.{Legend.{key}, Picture.{goes_on}, RowPicture.{picture}, LifeWords.{lives_words}}
use Rattle.mdns_page.specs.declared.{axis.Axis.{Axis}, timeline_records.TimelinePart.{TimelinePart}}
use Rattle.mdns_page.specs.declared.timeline_records.TimelinePart.TheVariants.{Addresses, Instances, Names}
use Rattle.mdns_page.specs.declared.{seconds_by_capture.Hearers.{Hearers}, timeline_rows.CountedRow.{CountedRow}, row_picture.Look.{Look}}

-- ---- rows of records

-- a record with its last hearing, its lives, those of each server of the instance that it gives, how many captures there are, and
-- the seconds in which each capture heard the record; of more than four captures only those of the ones that heard it
pub record Row : Type 0 where
  pub last : Latest
  pub lives : List Life
  pub servers : List (List Life)
  pub capture_count : ℕ
  pub heard : List (List SecondHeard)

-- the seconds in which a capture heard a record
abbrev pub seconds_lent : Vec SecondHeard → List SecondHeard
seconds_lent seconds = seconds.items

-- the lives of a record
abbrev pub lives_lent : RecordLives → List Life
lives_lent row = row.lives.items

-- the seconds of captures; where there are many, only those of the ones that heard the record
abbrev pub shown_seconds : (many : Bool) → List (List SecondHeard) → List (List SecondHeard)
shown_seconds many captures = if many then filter (λ seconds. nat_lt 0 (length seconds)) captures else captures

-- the seconds that the captures hold of a record; of more than four captures only those of the ones that heard it
abbrev pub held_lent : List Accounts → Key → List (List SecondHeard)
held_lent chronicles key = shown_seconds (nat_lt 4 (length chronicles)) (map (λ c. seconds_held c key) chronicles)

-- the seconds that are told of a record, if some are
abbrev pub told_lent : BTreeMap Key (Vec (Vec SecondHeard)) → Key → Option (List (List SecondHeard))
told_lent by_record key = option_map (λ (heard : Vec (Vec SecondHeard)). map seconds_lent heard.items) (get key_cmp by_record key)

-- those that are told, or else those that are held
abbrev pub heard_lent : Hearers → Key → List (List SecondHeard)
heard_lent hearers key = unwrap_or (told_lent hearers.by_record key) (held_lent hearers.chronicles.now key)

abbrev pub counted_lent : CountedRow → Row
counted_lent row = record {
  last = last_lent row.record.now.last;
  lives = row.record.now.lives.items;
  servers = map lives_lent row.servers.now;
  capture_count = length row.hearers.now.chronicles.now;
  heard = heard_lent row.hearers.now (key_of_last (last_lent row.record.now.last));
}

-- the lives in the picture of a row: those of its record, and those of its servers
abbrev pub lives_in : Row → List Life
lives_in row = row.lives ++ flat_map (λ lives. lives) row.servers

-- the owner of a row's record: the name of a type, or of a host
abbrev pub owner_of : Row → List ℕ
owner_of row = row.last.resource.owner

-- ---- rows

-- the last of some lives is such; where it goes on after the end of the captures, the record is live then
abbrev pub is_last : (Life → Bool) → List Life → Bool
is_last is lives = unwrap_or (option_map is (slice_get lives (length lives - 1))) false

-- how many rows are of records whose last life is such
abbrev pub count_last : (Life → Bool) → List Row → ℕ
count_last is rows = count_by (λ row. is_last is row.lives) rows

-- what data names: an instance or another whole name, or a host by its address; nothing for other data, whose record has no row
abbrev pub content_name : (List ℕ → List ℕ) → TimelinePart → (owner : List ℕ) → Content (List ℕ) (List ℕ) → List ℕ
content_name say part owner (content.Address address) =
    say (name_shown owner) ++ codes " <code>" ++ shown_address address ++ codes "</code>"
content_name say Instances owner (content.Name name) = say (shown_instance name)
content_name say _ owner (content.Name name) = say (name_shown name)
content_name say part owner _ = []

-- a record: what it names, how often each capture heard it, the picture of its and its servers' lives, and its own in words
unfoldable pub row_text : (List ℕ → List ℕ) → TimelinePart → Look → Row → List ℕ
row_text say part look row =
    item (content_name say part (owner_of row) (content_of row.last.resource.body) ++ heard_text row.capture_count row.heard)
    (picture look row.lives row.servers row.heard) (lives_words look.axis row.lives)

-- ---- groups

-- what a group is called: instances by their type
abbrev pub group_name : TimelinePart → List Row → List ℕ
group_name Instances rows = name_shown (first_owner owner_of rows)
group_name Addresses rows = codes "Addresses of hosts"
group_name Names rows = codes "Names that aren't one label and the type"

-- how many rows a group has
abbrev pub group_count : TimelinePart → ℕ → List ℕ
group_count Instances count = count_text count (codes "instance") (codes "instances")
group_count Addresses count = count_text count (codes "address") (codes "addresses")
group_count Names count = count_text count (codes "name") (codes "names")

-- the instances of a type, the addresses of all hosts, or all names that aren't one label and the type, and how many are live
unfoldable pub group_text : (List ℕ → List ℕ) → Look → (opened : Bool) → TimelinePart → List Row → List ℕ
group_text say look opened part rows =
    group opened (say (group_name part rows)) axis_picture
    (group_count part (length rows) ++ codes ", " ++ commas (count_last (goes_on look.axis) rows) ++ codes " live")
    (flat_map (row_text say part look) rows)

-- the same; nothing where there are none
abbrev pub others_text : (List ℕ → List ℕ) → Look → (opened : Bool) → TimelinePart → List Row → List ℕ
others_text say look opened part rows = if length rows == 0 then [] else group_text say look opened part rows

-- ---- the whole

-- so many instances that other records have no rows, and no row has lanes
abbrev pub is_large : ℕ → Bool
is_large instances = nat_lt 1000 instances

-- so few rows that they all show at first
abbrev pub is_open : ℕ → Bool
is_open count = nat_le count 200

-- what stands before the groups: how bars are read, which lane is whose where there are several, and what is left out
unfoldable pub timeline_begin : (titled large : Bool) → (lanes : ℕ) → List ℕ
timeline_begin titled large lanes =
    codes "<h2 id=\"timeline\">Timeline</h2>\n<p class=\"note\">Times are UTC, cut off at seconds. "
    ++ codes "A bar begins when the record was first heard; it may have stood before. "
    ++ codes "A goodbye ends it one second later, unless it is announced again before. "
    ++ codes "Heard 3&#215;: in three different seconds."
    ++ (if titled then codes " Point at a bar for milliseconds." else [])
    ++ (if nat_lt 1 lanes then codes " The lanes of ticks are the captures, &#9312; on top." else [])
    ++ (if large then codes " With more than 1,000 instances, the ticks of hearings, the addresses of hosts "
    ++ codes "and names that are not one label and the type are left out." else [])
    ++ codes "</p>\n" ++ key lanes ++ codes "<div class=\"g\">\n"

-- the timeline of instances, addresses and other names, all in key order, with so many lanes; bars have titles where there are at
-- most 1,000 lives in the pictures of all rows together; `say` is how text of the network is written
abbrev pub timeline : (List ℕ → List ℕ) → Axis → (lanes : ℕ) → (rows addresses names : List Row) → List ℕ
timeline say axis lanes rows addresses names =
    let titled = nat_le (length (flat_map lives_in (rows ++ addresses ++ names))) 1000 in
    let look : Look = record { axis = axis; titled = titled; lanes = lanes } in
    let opened = is_open (length rows + length addresses + length names) in
    timeline_begin titled (is_large (length rows)) lanes ++ flat_map (group_text say look opened Instances) (grouped owner_of rows)
    ++ others_text say look opened Addresses addresses ++ others_text say look opened Names names ++ codes "</div>\n"
