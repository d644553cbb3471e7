-- What is about a subject: a name, a word of data or an address for which somebody asks.
use Rattle.std.specs.Prelude.{ℕ, ◌-◌, ◌==◌, Bool, true, false, ◌||◌, ◌&&◌, nat_le, if◌then◌else◌, List, [], ◌∷◌, ◌++◌, length, take, drop}
use Rattle.std.specs.Prelude.{Option, Some, None, codes, string_bytes}
use Rattle.std.specs.{Cmp.Lexicographic.{slice_cmp}, Fmt.{decimal}, List.{flat_map, list_any}}
use Rattle.std.specs.{Net.Addr.{ipv4_octets, ipv6_octets}, Ordering.{is_eq, nat_cmp}, declared.net.ip_addr.IpAddr.{IpAddr}}
use Rattle.std.specs.declared.net.ip_addr.IpAddr.TheVariants.{V4, V6}
use Rattle.dns_name.specs.Name.{bytes_text, labels_of, name_text, wire_of}
use Rattle.mdns_message.specs.{Resource.{Body}, Parts.{content_of}, TextData.{strings_of}}
use Rattle.mdns_message.specs.declared.{parts.Address.{Address}, parts.Content.{Content}, parts.SrvData.{SrvData}}
use Rattle.mdns_message.specs.declared.resource.Resource.{Resource}
use Rattle.mdns_message.specs.declared.parts.Address.TheVariants as address
use Rattle.mdns_message.specs.declared.parts.Content.TheVariants as content
use Rattle.mdns_join.specs.declared.latest.Latest.{Latest}
use Rattle.people_text.specs.Shown.{dotted, name_shown, shown}
use Rattle.mdns_browse.specs.declared.{about.Subject.{Subject}, instance.Instance.{Instance}, instance.Server.{Server}}
use Rattle.mdns_browse.specs.{NameSaid.{front}, Services.{instance_in, same_text}}

-- ---- subjects

-- what a subject may ask for: a text, or an address of these octets
pub data Term : Type 0 where
  Text : List ℕ → Term
  Octets : List ℕ → Term

-- the address has these octets; what is no address has none
unfoldable pub matches_address : Option IpAddr → List ℕ → Bool
matches_address None octets = false
matches_address (Some (V4 address)) octets = is_eq (slice_cmp nat_cmp (ipv4_octets address) octets)
matches_address (Some (V6 address)) octets = is_eq (slice_cmp nat_cmp (ipv6_octets address) octets)

-- the subject is that
abbrev pub is_term : Term → Subject → Bool
is_term (Text text) subject = same_text (string_bytes subject.text) text
is_term (Octets octets) subject = matches_address subject.address octets

-- one of the subjects is that, or one of these
abbrev pub asks_for : List Subject → Term → Bool
asks_for about term = list_any (is_term term) about

abbrev pub asks_for_any : List Subject → List Term → Bool
asks_for_any about all = list_any (asks_for about) all

-- ---- how people ask for a name

-- the text before `.local` at its end, whatever the case of its letters, if it ends so
abbrev pub before_local : List ℕ → Option (List ℕ)
before_local text =
    if nat_le 6 (length text) && same_text (drop (length text - 6) text) (codes ".local") then Some (take (length text - 6) text) else None

abbrev pub text_if : Option (List ℕ) → List Term
text_if None = []
text_if (Some text) = Text text ∷ []

-- the text, and the text without `.local` at its end
unfoldable pub in_local : List ℕ → List Term
in_local text = Text text ∷ text_if (before_local text)

-- bytes as lines write them, which may escape dots, and as people read them
abbrev pub bytes_terms : Bool → List ℕ → List Term
bytes_terms dots bytes = Text (bytes_text dots bytes) ∷ Text (shown bytes) ∷ []

-- the labels as people write them, in whose dots nothing is escaped: those of an instance before its type, and all
unfoldable pub said_terms : List (List ℕ) → List Term
said_terms labels = Text (dotted shown (front labels)) ∷ in_local (dotted shown labels)

-- the first of the labels alone
abbrev pub label_terms : List (List ℕ) → List Term
label_terms [] = []
label_terms (label ∷ labels) = bytes_terms true label

-- a name, as lines write it, as people read it or as they write it: whole, without `local` at its end, or its first label alone, and
-- of an instance's name what stands before its type
unfoldable pub name_terms : List ℕ → List Term
name_terms name = in_local (name_text name) ++ (in_local (name_shown name) ++ (said_terms (labels_of name) ++ label_terms (labels_of name)))

-- the name after the first of the labels: of an instance's name, its type (RFC 6763, section 4.1)
abbrev pub rest_terms : List (List ℕ) → List Term
rest_terms [] = []
rest_terms (label ∷ labels) = name_terms (wire_of labels)

-- ---- and for data, records and instances

-- a string, where it isn't empty
abbrev pub string_terms : List ℕ → List Term
string_terms [] = []
string_terms (b ∷ bytes) = bytes_terms false (b ∷ bytes)

abbrev pub address_term : Address → Term
address_term (address.V4 octets) = Octets octets
address_term (address.V6 octets) = Octets octets

-- a service: its target, its priority, weight and port, and `TARGET:PORT`
abbrev pub service_terms : SrvData (List ℕ) → List Term
service_terms service =
    name_terms service.target
    ++ Text (decimal service.priority) ∷ Text (decimal service.weight) ∷ Text (decimal service.port)
    ∷ Text (name_shown service.target ++ 58 ∷ decimal service.port) ∷ []

-- what data says: an address in any of its forms, a name, strings or a service
unfoldable pub content_terms : Content (List ℕ) (List ℕ) → List Term
content_terms (content.Address address) = address_term address ∷ []
content_terms (content.Name name) = name_terms name
content_terms (content.Strings bytes) = flat_map string_terms (strings_of bytes)
content_terms (content.Srv service) = service_terms service

abbrev pub data_terms : Body → List Term
data_terms b = content_terms (content_of b)

-- a record: its owner, and its data
abbrev pub record_terms : Resource → List Term
record_terms resource = name_terms resource.owner ++ data_terms resource.body

-- a server: the target, and its addresses
abbrev pub server_terms : Server → List Term
server_terms server = name_terms server.target ++ flat_map data_terms server.addresses

-- an instance: its name, its type, and its servers with their addresses
abbrev pub instance_terms : Instance → List Term
instance_terms instance =
    name_terms instance.name ++ (rest_terms (labels_of instance.name) ++ flat_map server_terms instance.servers)

-- ---- what is kept

-- a value is kept for which one of the subjects asks, or where there are no subjects
abbrev pub keeps : List Subject → List Term → Bool
keeps about all = (length about == 0) || asks_for_any about all

unfoldable pub keeps_record : List Subject → Resource → Bool
keeps_record about resource = keeps about (record_terms resource)

-- a service type
unfoldable pub keeps_type : List Subject → List ℕ → Bool
keeps_type about name = keeps about (name_terms name)

-- and a service instance
unfoldable pub keeps_instance : List Subject → Instance → Bool
keeps_instance about instance = keeps about (instance_terms instance)

-- the instance of that name among rows that were heard, live or not
abbrev pub keeps_heard : List Subject → List Latest → List ℕ → Bool
keeps_heard about rows name = keeps_instance about (instance_in rows name)
