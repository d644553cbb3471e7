-- Values of rows, as each form writes them. Lines and objects have every digit of a moment and all of an address. People read
-- moments to the millisecond, addresses in their short form, and names as they were sent.
use Rattle.std.specs.Prelude.{ℕ, ℤ, false, List, [], ◌∷◌, ◌++◌, map, Option, Some, None, codes}
use Rattle.std.specs.{Fmt.{decimal, digits}, List.{flat_map}, Net.Addr.{segments_of}}
use Rattle.dns_name.specs.Name.{name_text}
use Rattle.people_text.specs.{Address.{ipv6_short}, MomentText.{millis_text}, Shown.{name_shown}}
use Rattle.mdns_browse.specs.{Json.{json_array, json_string}, RecordText.{ipv4_text}}
use Rattle.mdns_capture.specs.{Text.{moment_text}, declared.moment.Moment.{Moment}, declared.source_address.SourceAddress.{SourceAddress}}
use Rattle.mdns_capture.specs.declared.source_address.SourceAddress.TheVariants.{V4, V6}
use Rattle.mdns_listeners.specs.{declared.pairs.PairRow.{PairRow}, declared.values.Value.{Value as LentValue}, Clock.{clock_words}}
use Rattle.mdns_listeners.specs.Seconds.{signed_text}
use Rattle.mdns_listeners.specs.declared.values.Value.TheVariants as lent

-- a value of a row; of a clock, the name of the second listener as it is written
pub data Value : Type 0 where
  Words : List ℕ → Value
  Count : ℕ → Value
  Time : Option Moment → Value
  Ahead : Option ℤ → Value
  Address : SourceAddress → Value
  Names : List (List ℕ) → Value
  Clock : List ℕ → PairRow → Value

-- the value that is lent
abbrev pub value_lent : LentValue → Value
value_lent (lent.Words text) = Words text.now
value_lent (lent.Count number) = Count number
value_lent (lent.Time moment) = Time moment
value_lent (lent.Ahead nanos) = Ahead nanos
value_lent (lent.Address source) = Address source.now
value_lent (lent.Names names) = Names names.now
value_lent (lent.Clock file pair) = Clock file.now pair.now

-- ---- lines

-- numbers in lower case hexadecimal without leading zeros, with `:` between them
unfoldable pub groups_text : List ℕ → List ℕ
groups_text [] = []
groups_text (group ∷ groups) = digits 16 false group ++ flat_map (λ next. 58 ∷ digits 16 false next) groups

-- an IPv4 address with dots, or an IPv6 address as eight groups, none of which is left out
abbrev pub source_text : SourceAddress → List ℕ
source_text (V4 octets) = ipv4_text octets
source_text (V6 octets) = groups_text (segments_of octets)

-- a value in a line of words: `-` for one that there is not, and a space before each name
abbrev pub word_text : Value → List ℕ
word_text (Words text) = text
word_text (Count number) = decimal number
word_text (Time None) = codes "-"
word_text (Time (Some moment)) = moment_text moment.nanos
word_text (Ahead None) = codes "-"
word_text (Ahead (Some nanos)) = signed_text nanos
word_text (Address source) = source_text source
word_text (Names names) = flat_map (λ name. 32 ∷ name_text name) names
word_text (Clock file pair) = clock_words file pair

-- ---- objects

-- a value in an object: moments and durations are strings, so that no reader rounds them
abbrev pub json_text : Value → List ℕ
json_text (Words text) = json_string text
json_text (Count number) = decimal number
json_text (Time None) = codes "null"
json_text (Time (Some moment)) = json_string (moment_text moment.nanos)
json_text (Ahead None) = codes "null"
json_text (Ahead (Some nanos)) = json_string (signed_text nanos)
json_text (Address source) = json_string (source_text source)
json_text (Names names) = json_array (map (λ name. json_string (name_text name)) names)
json_text (Clock file pair) = json_string (clock_words file pair)

-- ---- tables

-- an IPv4 address with dots, or an IPv6 address in its short form
abbrev pub source_shown : SourceAddress → List ℕ
source_shown (V4 octets) = ipv4_text octets
source_shown (V6 octets) = ipv6_short octets

-- names, with `, ` between them
abbrev pub names_shown : List (List ℕ) → List ℕ
names_shown [] = []
names_shown (name ∷ names) = name_shown name ++ flat_map (λ next. codes ", " ++ name_shown next) names

-- a value in a cell of a table
abbrev pub cell_text : Value → List ℕ
cell_text (Words text) = text
cell_text (Count number) = decimal number
cell_text (Time None) = codes "-"
cell_text (Time (Some moment)) = millis_text moment.nanos
cell_text (Ahead None) = codes "-"
cell_text (Ahead (Some nanos)) = signed_text nanos
cell_text (Address source) = source_shown source
cell_text (Names names) = names_shown names
cell_text (Clock file pair) = clock_words file pair
