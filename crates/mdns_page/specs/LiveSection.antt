-- What was live at the end.
use Rattle.std.specs.Prelude.{ℕ, ◌-◌, ◌==◌, if◌then◌else◌, Bool, List, [], ◌∷◌, ◌++◌, codes, length, option_map}
use Rattle.std.specs.{Prelude.{unwrap_or}, Fmt.{decimal}, List.{filter_map, flat_map, join_by}}
use Rattle.mdns_message.specs.{Resource.{Body}, Parts.{address_of}}
use Rattle.people_text.specs.{MomentText.{duration_text, millis_text}, Shown.{name_shown}}
use Rattle.mdns_browse.specs.{declared.instance.Server.{Server}, Services.{GivenRow, InstanceRow, instance_row_in}}
use Rattle.mdns_browse.specs.RecordShown.{shown_address, shown_instance, shown_priority, shown_strings, spaced_wide}
use Rattle.mdns_join.specs.declared.latest.Latest.{Latest}
use Rattle.mdns_page.specs.{declared.axis.Axis.{Axis}, Axis.{short_text}, Group.{first_owner, group, grouped, item}}

-- ---- instances

-- since when an instance is live, where that is known, and how much longer, or that it has said goodbye (RFC 6762, section 10.1)
abbrev pub given_words : Axis → GivenRow → List ℕ
given_words axis given =
    codes "<small>" ++ unwrap_or (option_map (λ from. codes "since " ++ short_text axis.dates from ++ codes ", ") given.since) []
    ++ (if given.last.ttl == 0 then codes "said goodbye" else duration_text (given.end - axis.now.nanos) ++ codes " left")
    ++ codes "</small>"

-- an address of a server
abbrev pub address_html : Body → List ℕ
address_html b = codes "<code>" ++ unwrap_or (option_map shown_address (address_of b)) [] ++ codes "</code>"

-- the target of a server, its port, and its priority and weight unless both are 0 (RFC 2782); the target alone is text of the network,
-- so that the port is on its right even if the target goes to the left
abbrev pub server_line : (List ℕ → List ℕ) → (priority weight port : ℕ) → (target : List ℕ) → List ℕ
server_line say priority weight port target =
    codes "<p>" ++ say (name_shown target) ++ 58 ∷ decimal port ++ spaced_wide (shown_priority priority weight) ++ codes "</p>"

abbrev pub server_html : (List ℕ → List ℕ) → Server → List ℕ
server_html say server =
    server_line say server.priority server.weight server.port server.target ++ join_by address_html (32 ∷ []) server.addresses

-- a text: each of its strings that isn't empty, one a line; nothing where there is none
abbrev pub text_html : (List ℕ → List ℕ) → List ℕ → List ℕ
text_html say text =
    let words = shown_strings text in
    if length words == 0 then [] else codes "<p>" ++ say (join_by (λ word. word) (10 ∷ []) words) ++ codes "</p>"

-- an instance: its name and since when it is live, its servers, or that it has none, and its texts
unfoldable pub live_row : (List ℕ → List ℕ) → Axis → InstanceRow → List ℕ
live_row say axis row =
    item (say (shown_instance row.instance.name) ++ given_words axis row.given)
    (codes "<div>" ++ (if length row.instance.servers == 0 then codes "<p>unresolved</p>"
    else flat_map (server_html say) row.instance.servers) ++ codes "</div>") (flat_map (text_html say) row.instance.texts)

-- ---- groups

-- the type of the instance that a record gives
abbrev pub type_of : GivenRow → List ℕ
type_of given = given.last.resource.owner

-- the instances of a type, of the records that give them; servers, addresses and texts are among the last hearings `lasts`
unfoldable pub live_group : (List ℕ → List ℕ) → Axis → Bool → List Latest → List GivenRow → List ℕ
live_group say axis opened lasts given =
    group opened (say (name_shown (first_owner type_of given))) (codes "<small>server, addresses</small>") (codes "text")
    (flat_map (live_row say axis) (filter_map (instance_row_in lasts) given))

-- ---- the section

-- the end of the captures, if that is a moment
abbrev pub end_text : Axis → List ℕ
end_text axis = if axis.now.nanos == 0 then [] else codes " at <time>" ++ millis_text axis.now.nanos ++ codes "</time>"

-- what was live at the end of the captures, in key order; `say` is how text of the network is written
abbrev pub live_text : (List ℕ → List ℕ) → Axis → Bool → List Latest → List GivenRow → List ℕ
live_text say axis opened lasts given =
    codes "<h2 id=\"live\">What was live" ++ end_text axis ++ codes "</h2>\n<div class=\"g l\">\n"
    ++ flat_map (live_group say axis opened lasts) (grouped type_of given) ++ codes "</div>\n"
