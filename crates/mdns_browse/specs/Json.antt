-- Records and services as JSON (RFC 8259): one object a line.
use Rattle.std.specs.Prelude.{ℕ, Bool, true, false, ◌==◌, ◌||◌, if◌then◌else◌, List, [], ◌∷◌, ◌++◌, map, codes}
use Rattle.std.specs.{Fmt.{decimal}, List.{flat_map}}
use Rattle.dns_name.specs.Name.{name_text}
use Rattle.mdns_message.specs.{Resource.{type_name, type_of}, declared.resource.Resource.{Resource}}
use Rattle.mdns_join.specs.declared.latest.Latest.{Latest}
use Rattle.mdns_browse.specs.{declared.instance.Server.{Server}, Services.{InstanceRow}, RecordShown.{shown_instance, shown_record}}
use Rattle.mdns_browse.specs.RecordText.{data_words, text_words}
use Rattle.people_text.specs.Shown.{name_shown}
use Rattle.mdns_capture.specs.Text.{moment_text}

-- a text whose `"` and marks stand each after a mark
abbrev pub marked : ℕ → List ℕ → List ℕ
marked mark text = flat_map (λ b. if (b == 34) || (b == mark) then mark ∷ b ∷ [] else b ∷ []) text

-- a text within a string, `"` and `\` after a `\`. No text here has a control character, so nothing else has to be escaped: words
-- and moments have bytes 0x21 to 0x7E alone, and texts for people visible scalars (the law `shown_text` of `people_text`)
unfoldable pub escaped : List ℕ → List ℕ
escaped text = marked 92 text

-- a text as a string (section 7)
abbrev pub json_string : List ℕ → List ℕ
json_string text = 34 ∷ escaped text ++ 34 ∷ []

-- a comma, unless what follows is the first
abbrev pub comma_unless : Bool → List ℕ
comma_unless first = if first then [] else 44 ∷ []

-- values one after another, each after a comma, but not one that is the first
unfoldable pub parted : Bool → List (List ℕ) → List ℕ
parted first [] = []
parted first (value ∷ values) = comma_unless first ++ value ++ parted false values

-- an array of values (section 5)
abbrev pub json_array : List (List ℕ) → List ℕ
json_array values = 91 ∷ parted true values ++ 93 ∷ []

-- a name and its value in an object (section 4)
abbrev pub json_member : List ℕ → List ℕ → List ℕ
json_member name value = json_string name ++ 58 ∷ value

-- the same of a text, as a string
abbrev pub text_member : List ℕ → List ℕ → List ℕ
text_member name text = json_member name (json_string text)

-- what is before the values of an array that is the value of a member after others
abbrev pub array_begin : List ℕ → List ℕ
array_begin name = 44 ∷ json_string name ++ 58 ∷ 91 ∷ []

-- an object of these members, in this order (section 4)
abbrev pub json_object : List (List ℕ) → List ℕ
json_object members = 123 ∷ parted true members ++ 125 ∷ []

-- `true` or `false` (section 3)
abbrev pub json_bool : Bool → List ℕ
json_bool value = if value then codes "true" else codes "false"

-- words as an array of strings
abbrev pub json_words : List (List ℕ) → List ℕ
json_words words = json_array (map json_string words)

-- what an object says of a record: owner, type, and the words of the data, and owner and data as people read them
abbrev pub resource_members : Resource → List (List ℕ)
resource_members resource =
    text_member (codes "owner") (name_text resource.owner) ∷ text_member (codes "type") (type_name (type_of resource.body))
    ∷ json_member (codes "data") (json_words (data_words resource.body)) ∷ text_member (codes "shown") (shown_record resource) ∷ []

-- of a hearing: the TTL as it was heard, the moment, and the end that it gives. Moments are strings, so that no reader rounds them
abbrev pub hearing_members : (ttl heard until : ℕ) → List (List ℕ)
hearing_members ttl heard until =
    json_member (codes "ttl") (decimal ttl) ∷ text_member (codes "heard") (moment_text heard)
    ∷ text_member (codes "until") (moment_text until) ∷ []

-- the line of a live record, by its last hearing and its end
unfoldable pub record_json : Latest × ℕ → List ℕ
record_json (last, end) =
    json_object (resource_members last.resource ++ hearing_members last.ttl last.moment.nanos end) ++ 10 ∷ []

-- the line of a service type: its name, and the name as people read it
unfoldable pub type_json : List ℕ → List ℕ
type_json name =
    json_object (text_member (codes "type") (name_text name) ∷ text_member (codes "shown") (name_shown name) ∷ []) ++ 10 ∷ []

-- a server: target, as people read it too, port, priority and weight (RFC 2782), and its addresses, each of which is one word
unfoldable pub server_json : Server → List ℕ
server_json server =
    json_object
    (text_member (codes "target") (name_text server.target) ∷ text_member (codes "shown") (name_shown server.target)
    ∷ json_member (codes "port") (decimal server.port) ∷ json_member (codes "priority") (decimal server.priority)
    ∷ json_member (codes "weight") (decimal server.weight)
    ∷ json_member (codes "addresses") (json_words (flat_map data_words server.addresses)) ∷ [])

-- the line of an instance: its name, the name as people read it, of the record that gives it the owner, which is the type, and
-- whether it has said goodbye (RFC 6762, section 10.1), its servers, its texts
unfoldable pub instance_json : InstanceRow → List ℕ
instance_json row =
    json_object
    (text_member (codes "instance") (name_text row.instance.name) ∷ text_member (codes "shown") (shown_instance row.instance.name)
    ∷ text_member (codes "type") (name_text row.given.last.resource.owner)
    ∷ json_member (codes "goodbye") (json_bool (row.given.last.ttl == 0))
    ∷ json_member (codes "servers") (json_array (map server_json row.instance.servers))
    ∷ json_member (codes "texts") (json_array (map (λ text. json_words (text_words text)) row.instance.texts)) ∷ []) ++ 10 ∷ []

-- whether the next value is the first, after these
abbrev pub first_after : {X : Type 0} → Bool → List X → Bool
first_after first [] = first
first_after first (x ∷ xs) = false
