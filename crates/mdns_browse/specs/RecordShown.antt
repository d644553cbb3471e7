-- Records and services as text for people.
use Rattle.std.specs.Prelude.{ℕ, ◌==◌, ◌&&◌, if◌then◌else◌, List, [], ◌∷◌, ◌++◌, slice_index_or, codes}
use Rattle.std.specs.{Fmt.{decimal}, List.{flat_map}}
use Rattle.dns_name.specs.Name.{labels_of}
use Rattle.mdns_message.specs.{Resource.{Body}, TextData.{strings_of}, declared.resource.Resource.{Resource}, Parts.{content_of}}
use Rattle.mdns_message.specs.declared.parts.{Address.{Address}, Address.TheVariants.{V4, V6}, Content.{Content}}
use Rattle.mdns_message.specs.declared.parts.Content.TheVariants as content
use Rattle.people_text.specs.{Address.{ipv6_short}, Shown.{name_shown, shown}}
use Rattle.mdns_browse.specs.RecordText.{ipv4_text}

-- one word for a string that isn't empty, none for an empty one
abbrev pub shown_string : List ℕ → List (List ℕ)
shown_string [] = []
shown_string (b ∷ bytes) = shown (b ∷ bytes) ∷ []

-- the words of TXT data
unfoldable pub shown_strings : List ℕ → List (List ℕ)
shown_strings bytes = flat_map shown_string (strings_of bytes)

-- the priority and weight of a server as one word, none where both are 0 (RFC 2782)
abbrev pub shown_priority : ℕ → ℕ → List (List ℕ)
shown_priority priority weight =
    if (priority == 0) && (weight == 0) then []
    else (codes "priority " ++ decimal priority ++ codes " weight " ++ decimal weight) ∷ []

-- an address
abbrev pub shown_address : Address → List ℕ
shown_address (V4 octets) = ipv4_text octets
shown_address (V6 octets) = ipv6_short octets

-- the words of what data says
abbrev pub shown_content : Content (List ℕ) (List ℕ) → List (List ℕ)
shown_content (content.Address address) = shown_address address ∷ []
shown_content (content.Name name) = name_shown name ∷ []
shown_content (content.Strings bytes) = shown_strings bytes
shown_content (content.Srv service) =
    (name_shown service.target ++ 58 ∷ decimal service.port) ∷ shown_priority service.priority service.weight

-- the words of a record's data
abbrev pub shown_words : Body → List (List ℕ)
shown_words b = shown_content (content_of b)

-- the words, each after a gap
abbrev pub spaced_by : List ℕ → List (List ℕ) → List ℕ
spaced_by gap words = flat_map (λ word. gap ++ word) words

-- the words, each after two spaces: a word may have single ones
abbrev pub spaced_wide : List (List ℕ) → List ℕ
spaced_wide words = spaced_by (32 ∷ 32 ∷ []) words

-- a record: its owner, and the words of its data
unfoldable pub shown_record : Resource → List ℕ
shown_record resource = name_shown resource.owner ++ spaced_wide (shown_words resource.body)

-- the name of an instance where it stands alone: its first label, in which dots aren't escaped (RFC 6763, section 4.1.1)
unfoldable pub shown_instance : List ℕ → List ℕ
shown_instance name = shown (slice_index_or (labels_of name) 0 [])
