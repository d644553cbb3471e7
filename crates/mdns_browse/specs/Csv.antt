-- Records, services and lives as comma-separated values (RFC 4180), with texts as people read them.
use Rattle.std.specs.Prelude.{ℕ, Bool, false, ◌==◌, ◌||◌, if◌then◌else◌, List, [], ◌∷◌, ◌++◌, drop, codes}
use Rattle.std.specs.{Fmt.{decimal}, List.{flat_map}}
use Rattle.mdns_message.specs.{Resource.{type_name, type_of}, declared.resource.Resource.{Resource}}
use Rattle.mdns_join.specs.declared.latest.Latest.{Latest}
use Rattle.people_text.specs.{MomentText.{exact_text}, Shown.{name_shown}}
use Rattle.mdns_browse.specs.{declared.csv.CsvField.{CsvField as LentField}, declared.instance.Server.{Server}, Json.{json_bool, marked}}
use Rattle.mdns_browse.specs.{RecordShown.{shown_instance, shown_strings, shown_words}, RecordText.{spaced}, Services.{InstanceRow}}
use Rattle.mdns_browse.specs.declared.csv.CsvField.TheVariants as lent

-- ---- lines

-- a field: a text, a number, a moment in nanoseconds since 1970, a flag, or nothing
pub data CsvField : Type 0 where
  Text : List ℕ → CsvField
  Number : ℕ → CsvField
  Moment : ℕ → CsvField
  Flag : Bool → CsvField
  Nothing : CsvField

-- the field that is lent
abbrev pub field_lent : LentField → CsvField
field_lent (lent.Text text) = Text text.now
field_lent (lent.Number number) = Number number
field_lent (lent.Moment nanos) = Moment nanos
field_lent (lent.Flag flag) = Flag flag
field_lent lent.Nothing = Nothing

-- a spreadsheet takes a text for a formula that begins with `=`, `+`, `-` or `@`
abbrev pub is_formula : List ℕ → Bool
is_formula [] = false
is_formula (b ∷ text) = (b == 61) || (b == 43) || (b == 45) || (b == 64)

-- a text in quotes, each of its own quotes doubled (section 2); what a spreadsheet would take for a formula after an apostrophe
unfoldable pub csv_text : List ℕ → List ℕ
csv_text text = 34 ∷ (if is_formula text then 39 ∷ [] else []) ++ marked 34 text ++ 34 ∷ []

abbrev pub csv_field : CsvField → List ℕ
csv_field (Text text) = csv_text text
csv_field (Number number) = decimal number
csv_field (Moment nanos) = exact_text nanos
csv_field (Flag flag) = json_bool flag
csv_field Nothing = []

-- a line: fields with commas between them, and CR LF (section 2)
unfoldable pub csv_line : List CsvField → List ℕ
csv_line [] = codes "\r\n"
csv_line (field ∷ fields) = csv_field field ++ flat_map (λ next. 44 ∷ csv_field next) fields ++ codes "\r\n"

-- words with one space between them
unfoldable pub joined : List (List ℕ) → List ℕ
joined words = drop 1 (spaced words)

-- ---- rows

-- what a line says of a record: its owner, its type, and the words of its data
abbrev pub resource_fields : Resource → List CsvField
resource_fields resource =
    Text (name_shown resource.owner) ∷ Text (type_name (type_of resource.body)) ∷ Text (joined (shown_words resource.body)) ∷ []

-- of a live record, by its last hearing and its end, also the TTL as it was heard, the moment and the end
unfoldable pub record_csv : Latest × ℕ → List ℕ
record_csv (last, end) =
    csv_line (resource_fields last.resource ++ Number last.ttl ∷ Moment last.moment.nanos ∷ Moment end ∷ [])

unfoldable pub type_csv : List ℕ → List ℕ
type_csv name = csv_line (Text (name_shown name) ∷ [])

-- a server of an instance of that name, type and texts
abbrev pub server_csv : (name kind texts : List ℕ) → Server → List ℕ
server_csv name kind texts server =
    csv_line (Text name ∷ Text kind ∷ Text (name_shown server.target) ∷ Number server.port
    ∷ Text (joined (flat_map shown_words server.addresses)) ∷ Text texts ∷ [])

-- a line for each server, or one without a server
abbrev pub servers_csv : (name kind texts : List ℕ) → List Server → List ℕ
servers_csv name kind texts [] = csv_line (Text name ∷ Text kind ∷ Nothing ∷ Nothing ∷ Nothing ∷ Text texts ∷ [])
servers_csv name kind texts (server ∷ servers) = flat_map (server_csv name kind texts) (server ∷ servers)

-- an instance, of the type that owns the record that gives it
unfoldable pub instance_csv : InstanceRow → List ℕ
instance_csv row =
    servers_csv (shown_instance row.instance.name) (name_shown row.given.last.resource.owner)
    (joined (flat_map shown_strings row.instance.texts)) row.instance.servers

-- ---- headers

abbrev pub records_header : List ℕ
records_header = codes "owner,type,data,ttl,heard,until\r\n"

abbrev pub types_header : List ℕ
types_header = codes "type\r\n"

abbrev pub instances_header : List ℕ
instances_header = codes "instance,type,host,port,addresses,texts\r\n"
