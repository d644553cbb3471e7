-- Pages on which names aren't written are equal where they agree but for names.
use Rattle.std.proofs.Common.{◌≡◌, refl, sym, ◌∙◌, ap, ℕ, ◌+◌, ◌==◌, nat_le, Bool, true, false, if◌then◌else◌, Option, None, Some}
use Rattle.std.proofs.Common.{List, [], ◌∷◌, ◌++◌, ◌-◌, codes, length, map, arith}
use Rattle.std.specs.{Prelude.{nat_lt, not, option_map}, List.{flat_map, join_by}}
use Rattle.mdns_message.specs.{Resource.{Body}, Parts.{address_of, content_of}, declared.parts.Address.{Address}}
use Rattle.mdns_message.specs.declared.body.RecordData.TheVariants as body
use Rattle.mdns_capture.specs.declared.savefile.Ending.{Ending}
use Rattle.mdns_survey.specs.declared.reading.Span.{Span}
use Rattle.mdns_lives.specs.declared.life.Life.{Life}
use Rattle.mdns_browse.specs.declared.{about.Subject.{Subject}, instance.Server.{Server}}
use Rattle.mdns_browse.specs.{Services.{GivenRow, InstanceRow}, RecordShown.{shown_address, shown_string, shown_strings}}
use Rattle.mdns_listeners.specs.declared.pairs.PairRow.{PairRow}
use Rattle.mdns_join.specs.declared.latest.Latest.{Latest}
use Rattle.people_text.specs.{MomentText.{duration_text}, Shown.{shown}}
use Rattle.mdns_page.specs.{declared.axis.Axis.{Axis}, declared.captures.CaptureCounts.{CaptureCounts}, Bare.{BareRow}}
use Rattle.mdns_page.specs.Bare.{bare_capture, bare_end, bare_file, bare_group, bare_groups, bare_instances, bare_live, bare_row}
use Rattle.mdns_page.specs.{Bare.{bare_server, bare_text, is_some_filled, unsaid}, Captures.{Comparison, Facts, capture_text}}
use Rattle.mdns_page.specs.{Captures.{captures_text, clock_text, compared_text, each_from}, Ticks.{symbols_text}, declared.row_picture.Look.{Look}}
use Rattle.mdns_page.specs.{Lanes.{bases_text}, Lead.{Ended}}
use Rattle.mdns_page.specs.{Lead.{about_line, ending_warning, pair_warning}, Picture.{goes_on}, LiveSection.{address_html, live_group}}
use Rattle.mdns_page.specs.{LiveSection.{live_row, live_text, server_html, text_html}, Document.{Shown, head, page}}
use Rattle.mdns_page.specs.Timeline.{Row, content_name, count_last, group_text, is_large, is_open, lives_in, owner_of, row_text, timeline}
use Rattle.mdns_page.specs.declared.timeline_records.{TimelinePart.{TimelinePart}, TimelinePart.TheVariants.{Addresses, Instances, Names}}
use Rattle.mdns_page.proofs.{GroupLemmas.{grouped_all}, LiveWordLemmas.{some-items}}
use Rattle.mdns_page.proofs.SameLists.{append-same, count-same, flat_map-alike, flat_map-same, groups-same, length-same}

-- ---- captures

span-same : (capture other : Facts) → bare_capture capture ≡ bare_capture other → capture.span ≡ other.span
span-same capture other same = ap (λ (bare : CaptureCounts × Ending × Option Span). bare.2) same

clock-same : (captures files : List Facts) → length captures ≡ length files → (pair : PairRow)
    → clock_text unsaid captures pair ≡ clock_text unsaid files pair
unfolding clock_text
clock-same captures files many pair = rw many refl

compared-same : (captures files : List Facts) (comparison : Comparison) (index : ℕ) → length captures ≡ length files
    → compared_text unsaid captures comparison index ≡ compared_text unsaid files comparison index
unfolding compared_text
compared-same captures files comparison index many = grind (arith, option_map, clock-same)

capture-same : (axis : Axis) (captures files : List Facts) (comparison : Comparison) → length captures ≡ length files → (index : ℕ)
    (capture file : Facts) → bare_capture capture ≡ bare_capture file
    → capture_text unsaid axis captures comparison index capture ≡ capture_text unsaid axis files comparison index file
unfolding capture_text
capture-same axis captures files comparison many index capture file same = grind (arith, compared-same, span-same)

each-same : (text other : ℕ → Facts → List ℕ)
    → ((index : ℕ) (capture file : Facts) → bare_capture capture ≡ bare_capture file → text index capture ≡ other index file)
    → (index : ℕ) (captures files : List Facts) → map bare_capture captures ≡ map bare_capture files
    → each_from text index captures ≡ each_from other index files
each-same text other each index [] [] same = refl
each-same text other each index [] (file ∷ files) same = cc
each-same text other each index (capture ∷ captures) [] same = cc
each-same text other each index (capture ∷ captures) (file ∷ files) same =
    grind (arith, each-same text other each (index + 1) captures files cc)

captures-same : (axis : Axis) (captures files : List Facts) (comparison : Comparison)
    → map bare_capture captures ≡ map bare_capture files
    → captures_text unsaid axis captures comparison ≡ captures_text unsaid axis files comparison
unfolding captures_text
captures-same axis captures files comparison same = grind (arith, length-same, each-same, capture-same)

-- ---- the head

bases-same : (axis : Axis) (lanes : ℕ) (captures files : List Facts) → map bare_capture captures ≡ map bare_capture files
    → bases_text axis lanes captures ≡ bases_text axis lanes files
unfolding bases_text
bases-same axis lanes captures files same = grind (arith, each-same)

head-same : (axis : Axis) (lanes : ℕ) (captures files : List Facts) → map bare_capture captures ≡ map bare_capture files
    → head axis lanes captures ≡ head axis lanes files
unfolding head symbols_text
head-same axis lanes captures files same = rw (bases-same axis lanes captures files same) refl

-- ---- the lead

count_last-same : (is : Life → Bool) (rows others : List Row) → map bare_row rows ≡ map bare_row others
    → count_last is rows ≡ count_last is others
count_last-same is = grind (arith, count-same)

about-same : (about others : List Subject) → length about ≡ length others → about_line unsaid about ≡ about_line unsaid others
about-same [] [] same = refl
about-same [] (other ∷ others) same = absurd (omega (arith, same))
about-same (subject ∷ about) [] same = absurd (omega (arith, same))
about-same (subject ∷ about) (other ∷ others) same = grind (arith, flat_map-alike)

warning-same : (file other : Ended) → bare_file file ≡ bare_file other → ending_warning unsaid file ≡ ending_warning unsaid other
unfolding ending_warning
warning-same file other same = rw same refl

pair-same : (captures files : List Facts) (pair : PairRow) → pair_warning unsaid captures pair ≡ pair_warning unsaid files pair
unfolding pair_warning
pair-same captures files pair = refl

-- ---- rows

abbrev bare_name : Option Address → List ℕ
bare_name None = []
bare_name (Some address) = codes " <code>" ++ shown_address address ++ codes "</code>"

name-bare : (part : TimelinePart) (owner : List ℕ) (b : Body) → content_name unsaid part owner (content_of b) ≡ bare_name (address_of b)
name-bare part owner (body.A octets) = refl
name-bare part owner (body.Aaaa octets) = refl
name-bare Instances owner (body.Ptr target) = refl
name-bare Addresses owner (body.Ptr target) = refl
name-bare Names owner (body.Ptr target) = refl
name-bare part owner (body.Txt strings) = refl
name-bare part owner (body.Srv priority weight port target) = refl

row-same : (part : TimelinePart) (look : Look) (row other : Row) → bare_row row ≡ bare_row other
    → row_text unsaid part look row ≡ row_text unsaid part look other
unfolding row_text
row-same part look row other same =
    let name = name-bare part (owner_of row) row.last.resource.body ∙ ap (λ (bare : BareRow). bare_name bare.0) same
    ∙ sym (name-bare part (owner_of other) other.last.resource.body) in
    let lives : row.lives ≡ other.lives = ap (λ (bare : BareRow). bare.1) same in
    let servers : row.servers ≡ other.servers = ap (λ (bare : BareRow). bare.2) same in
    let count : row.capture_count ≡ other.capture_count = ap (λ (bare : BareRow). bare.3) same in
    let heard : row.heard ≡ other.heard = ap (λ (bare : BareRow). bare.4) same in
    rw (name, lives, servers, count, heard) refl

lives-same : (row other : Row) → bare_row row ≡ bare_row other → lives_in row ≡ lives_in other
lives-same row other same = ap (λ (bare : BareRow). bare.1 ++ flat_map (λ (lives : List Life). lives) bare.2) same

rows-same : (rows drawn : List Row) → bare_groups rows ≡ bare_groups drawn → map bare_row rows ≡ map bare_row drawn
rows-same rows drawn same = grind (arith, grouped_all owner_of rows, groups-same, grouped_all owner_of drawn)

-- ---- the timeline

group-same : (look : Look) (opened : Bool) (part : TimelinePart) (rows others : List Row) → map bare_row rows ≡ map bare_row others
    → group_text unsaid look opened part rows ≡ group_text unsaid look opened part others
unfolding group_text
group-same look opened part rows others same =
    grind (arith, length-same bare_row rows others same, count_last-same (goes_on look.axis) rows others same, flat_map-same, row-same)

timeline-same : (axis : Axis) (lanes : ℕ) (rows drawn addresses hosts names apart : List Row) → bare_groups rows ≡ bare_groups drawn
    → map bare_row addresses ≡ map bare_row hosts → map bare_row names ≡ map bare_row apart
    → timeline unsaid axis lanes rows addresses names ≡ timeline unsaid axis lanes drawn hosts apart
timeline-same axis lanes rows drawn addresses hosts names apart same_groups same_addresses same_names =
    let same_rows = rows-same rows drawn same_groups in
    let all_same = append-same bare_row (rows ++ addresses) (drawn ++ hosts) names apart
    (append-same bare_row rows drawn addresses hosts same_rows same_addresses) same_names in
    let titled-same : nat_le (length (flat_map lives_in (rows ++ addresses ++ names))) 1000
    ≡ nat_le (length (flat_map lives_in (drawn ++ hosts ++ apart))) 1000 =
    grind (arith, flat_map-same, lives-same) in
    let look : Look =
    record { axis = axis; titled = nat_le (length (flat_map lives_in (drawn ++ hosts ++ apart))) 1000; lanes = lanes } in
    let opened = is_open (length drawn + length hosts + length apart) in
    grind (arith, length-same, flat_map-same, group-same)

-- ---- instances

-- how much longer an instance lives that ends then, or that has said goodbye
abbrev left_of : ℕ → Option ℕ → List ℕ
left_of now None = codes "said goodbye"
left_of now (Some end) = duration_text (end - now) ++ codes " left"

left-is : (now end : ℕ) (said : Bool)
    → (if said then codes "said goodbye" else duration_text (end - now) ++ codes " left") ≡ left_of now (if said then None else Some end)
left-is now end true = refl
left-is now end false = refl

left-same : (now : ℕ) (given other : GivenRow) → bare_end given ≡ bare_end other
    → (if given.last.ttl == 0 then codes "said goodbye" else duration_text (given.end - now) ++ codes " left")
    ≡ (if other.last.ttl == 0 then codes "said goodbye" else duration_text (other.end - now) ++ codes " left")
left-same now given other same =
    left-is now given.end (given.last.ttl == 0) ∙ ap (left_of now) same ∙ sym (left-is now other.end (other.last.ttl == 0))

addresses-same : (addresses others : List Body) → map address_of addresses ≡ map address_of others
    → join_by address_html (32 ∷ []) addresses ≡ join_by address_html (32 ∷ []) others
addresses-same [] [] same = refl
addresses-same [] (other ∷ others) same = cc
addresses-same (address ∷ addresses) [] same = cc
addresses-same (address ∷ addresses) (other ∷ others) same = grind (arith, flat_map-same)

server-same : (server other : Server) → bare_server server ≡ bare_server other → server_html unsaid server ≡ server_html unsaid other
server-same server other same = grind (arith, addresses-same)

none-filled : (strings : List (List ℕ)) → (length (flat_map shown_string strings) == 0) ≡ not (is_some_filled strings)
none-filled [] = refl
none-filled ([] ∷ strings) = none-filled strings
none-filled ((byte ∷ bytes) ∷ strings) = some-items (shown (byte ∷ bytes)) (flat_map shown_string strings)

text-same : (text other : List ℕ) → bare_text text ≡ bare_text other → text_html unsaid text ≡ text_html unsaid other
unfolding shown_strings
text-same text other same = grind (arith, none-filled, not)

live_row-same : (axis : Axis) (row other : InstanceRow) → bare_live row ≡ bare_live other
    → live_row unsaid axis row ≡ live_row unsaid axis other
unfolding live_row
live_row-same axis row other same = grind (arith, left-same, length-same, flat_map-same, server-same, text-same, option_map)

live_group-same : (axis : Axis) (opened : Bool) (lasts others : List Latest) (given more : List GivenRow)
    → bare_group lasts given ≡ bare_group others more
    → live_group unsaid axis opened lasts given ≡ live_group unsaid axis opened others more
unfolding live_group
live_group-same axis opened lasts others given more same = grind (arith, flat_map-same, live_row-same)

live_groups-same : (axis : Axis) (opened : Bool) (lasts others : List Latest) (groups more : List (List GivenRow))
    → map (bare_group lasts) groups ≡ map (bare_group others) more
    → flat_map (live_group unsaid axis opened lasts) groups ≡ flat_map (live_group unsaid axis opened others) more
live_groups-same axis opened lasts others [] [] same = refl
live_groups-same axis opened lasts others [] (group ∷ more) same = cc
live_groups-same axis opened lasts others (group ∷ groups) [] same = cc
live_groups-same axis opened lasts others (group ∷ groups) (other ∷ more) same =
    grind (arith, live_group-same, live_groups-same axis opened lasts others groups more cc)

live-same : (axis : Axis) (opened : Bool) (lasts others : List Latest) (given more : List GivenRow)
    → bare_instances lasts given ≡ bare_instances others more
    → live_text unsaid axis opened lasts given ≡ live_text unsaid axis opened others more
live-same axis opened lasts others given more same = grind (arith, live_groups-same)

-- ---- the whole

pub page-same : (a b : Shown) (opened : Bool) (lasts others : List Latest) (live now : List GivenRow) → a.axis ≡ b.axis → a.lost ≡ b.lost
    → a.skipped ≡ b.skipped → a.known ≡ b.known → a.comparison ≡ b.comparison → a.live ≡ live_text unsaid a.axis opened lasts live → b.live ≡ live_text unsaid b.axis opened others now
    → length a.about ≡ length b.about → map bare_capture a.captures ≡ map bare_capture b.captures
    → map bare_file a.files ≡ map bare_file b.files
    → bare_groups a.rows ≡ bare_groups b.rows → map bare_row a.addresses ≡ map bare_row b.addresses
    → map bare_row a.names ≡ map bare_row b.names → bare_instances lasts live ≡ bare_instances others now → page unsaid a ≡ page unsaid b
page-same a b opened lasts others live now same_axis same_lost same_skipped same_known same_comparison
    written written_too same_about same_captures same_files same_rows same_addresses
    same_names same_live =
    let lanes = if is_large (length a.rows) then 0 else (if nat_lt 4 (length a.captures) then 1 else length a.captures) in
    let rows = rows-same a.rows b.rows same_rows in
    let warnings : flat_map (pair_warning unsaid a.captures) b.comparison.pairs
    ≡ flat_map (pair_warning unsaid b.captures) b.comparison.pairs =
    λ i. flat_map (λ (pair : PairRow). pair-same a.captures b.captures pair i) b.comparison.pairs in
    rw (
      written,
      written_too,
      same_axis,
      same_lost,
      same_skipped,
      same_comparison,
      head-same b.axis lanes a.captures b.captures same_captures,
      same_known,
      about-same a.about b.about same_about,
      flat_map-same bare_file (ending_warning unsaid) warning-same a.files b.files same_files,
      warnings,
      captures-same b.axis a.captures b.captures b.comparison same_captures,
      timeline-same b.axis lanes a.rows b.rows a.addresses b.addresses a.names b.names same_rows same_addresses same_names,
      live-same b.axis opened lasts others live now same_live,
      length-same bare_row a.rows b.rows rows,
      length-same bare_capture a.captures b.captures same_captures,
    ) refl
