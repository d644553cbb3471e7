-- The text of a report.
use Rattle.std.specs.{Prelude.{ℕ, List, [], ◌∷◌, ◌++◌, map}, List.{filter, flat_map}}
use Rattle.dns_name.specs.Name.{name_text}
use Rattle.mdns_capture.specs.declared.moment.Moment.{Moment}
use Rattle.mdns_message.specs.declared.hearing.Hearing.{Hearing}
use Rattle.mdns_join.specs.declared.latest.Latest.{Latest}
use Rattle.mdns_browse.specs.{About.{keeps_instance, keeps_record, keeps_type}, declared.about.Subject.{Subject}}
use Rattle.mdns_browse.specs.{Forms.{hosts_text, instances_text, records_text, types_text}, Hosts.{host_line, hosts_about, hosts_in}}
use Rattle.mdns_browse.specs.{RecordText.{instance_lines, record_line}, Services.{InstanceRow, IsOfLive, given_of}}
use Rattle.mdns_browse.specs.{Services.{instance_rows_in, instances_in, lasts_in, others_in, types_in}, declared.report.Ask.{Ask}}
use Rattle.mdns_browse.specs.declared.report.{Ask.TheVariants.{Records, Types, Instances, Hosts}, Form.{Form}}
use Rattle.mdns_browse.specs.declared.report.{ReportFault.{ReportFault}, ReportFault.TheVariants.{Early, Memory}}

-- the lines of words that answer the question of live records with their ends: a line for each record, for each service type,
-- the lines of each service instance, or a line for each host, in key order
abbrev pub lines_in : Ask → List (Latest × ℕ) → List ℕ
lines_in Records rows = flat_map record_line rows
lines_in Types rows = flat_map (λ name. name_text name ++ 10 ∷ []) (types_in (lasts_in rows))
lines_in Instances rows = flat_map instance_lines (instances_in (lasts_in rows))
lines_in Hosts rows = flat_map host_line (hosts_in (lasts_in rows))

-- the text answers the question over all hearings, as of `now` nanoseconds
abbrev pub IsReport : Ask → List Hearing → ℕ → List ℕ → Type 0
IsReport ask = IsOfLive (lines_in ask)

-- what a report lists: the live records, service types or instances about one of the subjects; all, where there are none
abbrev pub records_about : List Subject → List (Latest × ℕ) → List (Latest × ℕ)
records_about about rows = filter (λ row. keeps_record about row.0.resource) rows

abbrev pub types_about : List Subject → List (Latest × ℕ) → List (List ℕ)
types_about about rows = filter (keeps_type about) (types_in (lasts_in rows))

-- the instances, each with the live record that gives it
abbrev pub instances_about : List Subject → List (Latest × ℕ) → List InstanceRow
instances_about about rows =
    filter (λ row. keeps_instance about row.instance) (instance_rows_in (lasts_in rows) (map given_of rows))

-- The text of a report in that form: lines of words; one JSON object a line; readable columns, as of `now` nanoseconds, with
-- the live records that point from a service to another name after the instances; or comma-separated values after a header.
abbrev pub text_about : List Subject → Form → ℕ → Ask → List (Latest × ℕ) → List ℕ
text_about about form now Records rows = records_text form now (records_about about rows)
text_about about form now Types rows = types_text form now (types_about about rows)
text_about about form now Instances rows = instances_text form now (instances_about about rows) (records_about about (others_in rows))
text_about about form now Hosts rows = hosts_text form now (hosts_about about rows)

-- the text answers the question about these subjects in that form
abbrev pub IsReportIn : List Subject → Form → Ask → List Hearing → ℕ → List ℕ → Type 0
IsReportIn about form ask heard now = IsOfLive (text_about about form now ask) heard now

-- a fact of the moment that an `Early` carries
abbrev pub IfEarly : ReportFault → (Moment → Type 0) → Type 0
IfEarly (Early newest) fact = fact newest
IfEarly Memory fact = Unit {0}
