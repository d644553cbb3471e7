-- Records and services as text: presentation form after RFC 1035, section 5.1, and this project's own lines.
use Rattle.std.specs.Prelude.{ℕ, false, ◌+◌, ◌*◌, ◌/◌, ◌%◌, ◌==◌, nat_lt, if◌then◌else◌, List, [], ◌∷◌}
use Rattle.std.specs.{Prelude.{◌++◌, length, slice_index, codes}, Fmt.{decimal, digit_glyph}, List.{flat_map}}
unfoldable pub use Rattle.mdns_capture.specs.Text.{moment_text}
use Rattle.dns_name.specs.Name.{name_text}
use Rattle.mdns_message.specs.{Resource.{type_name, type_of, Body}, TextData.{string_text, strings_of}}
use Rattle.mdns_message.specs.{declared.resource.Resource.{Resource}, Parts.{content_of}, declared.parts.Address.{Address}}
use Rattle.mdns_message.specs.declared.parts.{Address.TheVariants.{V4, V6}, Content.{Content}}
use Rattle.mdns_join.specs.declared.latest.Latest.{Latest}
use Rattle.mdns_message.specs.declared.parts.Content.TheVariants as content
use Rattle.mdns_browse.specs.declared.{instance.Instance.{Instance}, instance.Server.{Server}, data_words.Word.{Word}}
use Rattle.mdns_browse.specs.declared.data_words.Word.TheVariants.{Ipv4, Ipv6, Name as NameWord, Number, String as StringWord, Moment}

-- one word for a string that isn't empty, none for an empty one
abbrev pub string_words : List ℕ → List (List ℕ)
string_words [] = []
string_words (b ∷ bytes) = string_text (b ∷ bytes) ∷ []

-- the words of TXT data
unfoldable pub text_words : List ℕ → List (List ℕ)
text_words bytes = flat_map string_words (strings_of bytes)

-- an octet as two hexadecimal digits, in lower case
abbrev pub hex_octet : ℕ → List ℕ
hex_octet octet = digit_glyph false (octet / 16) ∷ digit_glyph false (octet % 16) ∷ []

-- a group of an IPv6 address at its place: two octets, with a colon before each group but the first
abbrev pub placed_group : List ℕ → ℕ → List ℕ
placed_group octets k =
    (if nat_lt 0 k then 58 ∷ [] else []) ++ (hex_octet (slice_index octets (2 * k)) ++ hex_octet (slice_index octets (2 * k + 1)))

-- an IPv6 address: eight groups of four lower case hexadecimal digits
unfoldable pub ipv6_text : List ℕ → List ℕ
ipv6_text octets = flat_map (placed_group octets) (0 ∷ 1 ∷ 2 ∷ 3 ∷ 4 ∷ 5 ∷ 6 ∷ 7 ∷ [])

-- an IPv4 address: four decimal numbers
abbrev pub ipv4_text : List ℕ → List ℕ
ipv4_text octets =
    decimal (slice_index octets 0) ++ 46 ∷ decimal (slice_index octets 1) ++ 46 ∷ decimal (slice_index octets 2)
    ++ 46 ∷ decimal (slice_index octets 3)

-- the text of a word
abbrev pub word_text : Word → List ℕ
word_text (Ipv4 octets) = ipv4_text octets.now
word_text (Ipv6 octets) = ipv6_text octets.now
word_text (NameWord name) = name_text name.now
word_text (Number number) = decimal number
word_text (StringWord string) = string_text string.now
word_text (Moment nanos) = moment_text nanos

-- the words, each after one space
abbrev pub spaced : List (List ℕ) → List ℕ
spaced words = flat_map (λ word. 32 ∷ word) words

-- an address
abbrev pub address_text : Address → List ℕ
address_text (V4 octets) = ipv4_text octets
address_text (V6 octets) = ipv6_text octets

-- the words of what data says: those of a service are priority, weight, port and target (RFC 2782), and an address or a name
-- is one word
abbrev pub content_words : Content (List ℕ) (List ℕ) → List (List ℕ)
content_words (content.Address address) = address_text address ∷ []
content_words (content.Name name) = name_text name ∷ []
content_words (content.Strings bytes) = text_words bytes
content_words (content.Srv service) =
    decimal service.priority ∷ decimal service.weight ∷ decimal service.port ∷ name_text service.target ∷ []

-- the words of a record's data
abbrev pub data_words : Body → List (List ℕ)
data_words b = content_words (content_of b)

-- a record: its owner, its type, and the words of its data
abbrev pub resource_text : Resource → List ℕ
resource_text resource = name_text resource.owner ++ 32 ∷ type_name (type_of resource.body) ++ spaced (data_words resource.body)

-- the line of a live record, by its last hearing and its end: the record, the TTL as it was heard, the moment, and the end
unfoldable pub record_line : Latest × ℕ → List ℕ
record_line (last, end) =
    resource_text last.resource ++ codes " ttl " ++ decimal last.ttl ++ codes " heard " ++ moment_text last.moment.nanos
    ++ codes " until " ++ moment_text end ++ 10 ∷ []

-- the line of a server: target, port, priority and weight (RFC 2782), and the lines of its addresses
unfoldable pub server_lines : Server → List ℕ
server_lines server =
    codes "  server " ++ name_text server.target ++ 32 ∷ decimal server.port
    ++ codes " priority " ++ decimal server.priority ++ codes " weight " ++ decimal server.weight
    ++ 10 ∷ flat_map (λ address. codes "    address" ++ spaced (data_words address) ++ 10 ∷ []) server.addresses

-- the lines of an instance: its name, its servers, or one line that says that it has none, and its texts
unfoldable pub instance_lines : Instance → List ℕ
instance_lines instance =
    name_text instance.name ++ 10 ∷ flat_map server_lines instance.servers
    ++ (if length instance.servers == 0 then codes "  unresolved\n" else [])
    ++ flat_map (λ text. codes "  text" ++ spaced (text_words text) ++ 10 ∷ []) instance.texts
