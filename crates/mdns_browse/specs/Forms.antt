-- What a report lists, in each form: what it begins with, and the text of each record, service type, instance or host.
use Rattle.std.specs.{Prelude.{ℕ, ◌==◌, if◌then◌else◌, List, [], ◌∷◌, ◌++◌, length, codes}, List.{flat_map}}
use Rattle.dns_name.specs.Name.{name_text}
use Rattle.mdns_join.specs.declared.latest.Latest.{Latest}
use Rattle.mdns_browse.specs.declared.report.{Form.{Form}, Form.TheVariants.{Csv, Json, Lines, Pretty}}
use Rattle.mdns_browse.specs.Columns.{heading, instances_pretty, record_table, type_row, unless_none}
use Rattle.mdns_browse.specs.Csv.{instance_csv, instances_header, record_csv, records_header, type_csv, types_header}
use Rattle.mdns_browse.specs.Hosts.{HostRow, host_csv, host_json, host_line, host_rows, hosts_header}
use Rattle.mdns_browse.specs.{Json.{instance_json, record_json, type_json}, RecordText.{instance_lines, record_line}, Services.{InstanceRow}}

-- what a report begins with: for people how many there are, as comma-separated values their header
abbrev pub head : Form → ℕ → (one many header : List ℕ) → ℕ → List ℕ
head Lines count one many header now = []
head Json count one many header now = []
head Pretty count one many header now = heading count one many now
head Csv count one many header now = header

-- for people the records are rows of a table
abbrev pub record_text : Form → Latest × ℕ → List ℕ
record_text Lines = record_line
record_text Json = record_json
record_text Pretty = λ row. []
record_text Csv = record_csv

abbrev pub record_texts : Form → ℕ → List (Latest × ℕ) → List ℕ
record_texts Lines now rows = flat_map (record_text Lines) rows
record_texts Json now rows = flat_map (record_text Json) rows
record_texts Pretty now rows = unless_none rows (record_table now rows)
record_texts Csv now rows = flat_map (record_text Csv) rows

abbrev pub records_text : Form → ℕ → List (Latest × ℕ) → List ℕ
records_text form now rows =
    head form (length rows) (codes "record") (codes "records") records_header now ++ record_texts form now rows

abbrev pub type_text : Form → List ℕ → List ℕ
type_text Lines = λ name. name_text name ++ 10 ∷ []
type_text Json = type_json
type_text Pretty = type_row
type_text Csv = type_csv

-- for people an empty line is between the head and the types
abbrev pub gap : Form → ℕ → List ℕ
gap Lines count = []
gap Json count = []
gap Pretty count = if count == 0 then [] else 10 ∷ []
gap Csv count = []

abbrev pub types_text : Form → ℕ → List (List ℕ) → List ℕ
types_text form now names =
    head form (length names) (codes "service type") (codes "service types") types_header now ++ gap form (length names)
    ++ flat_map (type_text form) names

abbrev pub host_text : Form → HostRow → List ℕ
host_text Lines = host_line
host_text Json = host_json
host_text Pretty = host_rows
host_text Csv = host_csv

abbrev pub hosts_text : Form → ℕ → List HostRow → List ℕ
hosts_text form now hosts = head form (length hosts) (codes "host") (codes "hosts") hosts_header now ++ flat_map (host_text form) hosts

-- for people the instances have columns
abbrev pub listed_text : Form → List InstanceRow → List ℕ
listed_text Lines rows = flat_map (λ row. instance_lines row.instance) rows
listed_text Json rows = flat_map instance_json rows
listed_text Pretty rows = []
listed_text Csv rows = instances_header ++ flat_map instance_csv rows

-- in which the live records that point from a service to another name are below them
abbrev pub instances_text : Form → ℕ → List InstanceRow → List (Latest × ℕ) → List ℕ
instances_text Lines now rows others = listed_text Lines rows
instances_text Json now rows others = listed_text Json rows
instances_text Pretty now rows others = instances_pretty now rows others
instances_text Csv now rows others = listed_text Csv rows
