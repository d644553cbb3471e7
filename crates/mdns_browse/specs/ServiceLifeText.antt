-- The lives of service instances as text (RFC 6763, sections 4 and 5).
use Rattle.std.specs.Prelude.{ℕ, ◌==◌, if◌then◌else◌, max, List, [], ◌∷◌, ◌++◌, length, map, codes, Option}
use Rattle.std.specs.{Fmt.{decimal}, List.{flat_map}}
use Rattle.dns_name.specs.Name.{name_text}
use Rattle.mdns_message.specs.{declared.parts.SrvData.{SrvData}, Parts.{srv_lent}}
use Rattle.mdns_lives.specs.declared.{life.Life.{Life}, window.Window.{Window}}
use Rattle.people_text.specs.{MomentText.{millis_text}, Shown.{name_shown}}
use Rattle.mdns_browse.specs.declared.{report.Form.{Form}, report.Form.TheVariants.{Csv, Lines, Json, Pretty}}
use Rattle.mdns_browse.specs.declared.service_life_text.ServiceLife.{ServiceLife as LentLife}
use Rattle.mdns_browse.specs.Csv.{Moment as MomentField, Number, Text, csv_line, joined}
use Rattle.mdns_browse.specs.{Columns.{padded, widest}, Json.{json_array, json_member, json_object, text_member}, JsonPieces.{server_members}}
use Rattle.mdns_browse.specs.LifeText.{end_shown, end_text, life_members, life_words, lives_heading, until_shown}
use Rattle.mdns_browse.specs.RecordShown.{shown_instance, shown_priority, spaced_wide}

-- A life of a service instance: the type that owns the record that gives the instance (RFC 6763, section 4.1), the instance's name,
-- the life of that record, and what the SRV records of the instance say that were live in it (section 5).
pub record ServiceLife : Type 0 where
  pub kind : List ℕ
  pub name : List ℕ
  pub life : Life
  pub servers : List (SrvData (List ℕ))

abbrev pub service_life_lent : LentLife → ServiceLife
service_life_lent service =
    record { kind = service.kind.now; name = service.name.now; life = service.life; servers = map srv_lent service.servers.items }

-- ---- words

-- the instance as `instances` writes it, its life as `lives` has it, and target and port of each server (RFC 2782)
unfoldable pub service_line : ℕ → ServiceLife → List ℕ
service_line end service =
    name_text service.name ++ life_words end service.life
    ++ flat_map (λ (server : SrvData (List ℕ)). codes " server " ++ name_text server.target ++ 32 ∷ decimal server.port) service.servers
    ++ 10 ∷ []

-- ---- JSON

-- a server as an object: target, as people read it too, port, priority and weight
abbrev pub server_object : SrvData (List ℕ) → List ℕ
server_object server = json_object (server_members server.priority server.weight server.port server.target)

-- a life as an object: the instance as in `instances --json`, its servers, and the life as in `lives --json`
unfoldable pub service_json : ℕ → ServiceLife → List ℕ
service_json end service =
    json_object
    (text_member (codes "instance") (name_text service.name) ∷ text_member (codes "shown") (shown_instance service.name)
    ∷ text_member (codes "type") (name_text service.kind)
    ∷ json_member (codes "servers") (json_array (map server_object service.servers)) ∷ life_members end service.life) ++ 10 ∷ []

-- ---- comma-separated values

-- target and port of a server, for people
abbrev pub server_words : SrvData (List ℕ) → List ℕ
server_words server = name_shown server.target ++ 58 ∷ decimal server.port

-- a life as a line, by these texts of the instance, its type and its servers
abbrev pub csv_life : ℕ → (name kind servers : List ℕ) → Life → List ℕ
csv_life end name kind servers life =
    csv_line (Text name ∷ Text kind ∷ Text servers ∷ MomentField life.from.nanos ∷ Number life.last.ttl
    ∷ MomentField life.last.moment.nanos ∷ MomentField life.until ∷ Text (end_text end life) ∷ [])

-- with one space between servers
abbrev pub service_csv : ℕ → ServiceLife → List ℕ
service_csv end service =
    csv_life end (shown_instance service.name) (name_shown service.kind) (joined (map server_words service.servers)) service.life

-- ---- columns

-- each server as `instances --pretty` shows it, after two spaces, or that there is none
abbrev pub servers_shown : List (SrvData (List ℕ)) → List ℕ
servers_shown [] = codes "  unresolved"
servers_shown (server ∷ servers) =
    flat_map (λ (one : SrvData (List ℕ)). spaced_wide (server_words one ∷ shown_priority one.priority one.weight)) (server ∷ servers)

-- a life in columns: from when until when, how it ended, the whole name of the instance, and its servers
unfoldable pub service_row : (width end : ℕ) → ServiceLife → List ℕ
service_row width end service =
    millis_text service.life.from.nanos ++ codes " " ++ until_shown end service.life ++ codes " "
    ++ padded width (end_shown end service.life) ++ codes "  " ++ name_shown service.name ++ servers_shown service.servers ++ 10 ∷ []

-- the width of the column that says how lives end, which is at least that of its head
abbrev pub service_width : ℕ → List ServiceLife → ℕ
service_width end services = max 3 (widest (map (λ (service : ServiceLife). end_shown end service.life) services))

-- ---- forms

-- what so many lives are called
abbrev pub services_called : ℕ → List ℕ
services_called count = if count == 1 then codes " life of a service between " else codes " lives of services between "

-- what is before the lives: in columns as many as there are, and the bounds of the window, or else of the captures
abbrev pub services_head : Form → Window → (count width : ℕ) → Option ℕ → ℕ → List ℕ
services_head Pretty window count width begin end =
    lives_heading (services_called count) (codes "  SERVICE\n") window count width begin end
services_head Csv window count width begin end = codes "instance,type,servers,from,ttl,heard,until,end\r\n"
services_head _ window count width begin end = []

-- a life in that form
abbrev pub service_text : Form → (width end : ℕ) → ServiceLife → List ℕ
service_text Lines width = service_line
service_text Json width = service_json
service_text Pretty width = service_row width
service_text Csv width = service_csv

-- all of it: `begin` is the earliest moment, if there is one, and `end` the end of the captures
abbrev pub service_lives_text : Form → Window → Option ℕ → ℕ → List ServiceLife → List ℕ
service_lives_text form window begin end services =
    services_head form window (length services) (service_width end services) begin end
    ++ flat_map (service_text form (service_width end services) end) services
