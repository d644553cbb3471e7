-- Hosts: the owners of live A and AAAA records (RFC 6762, section 10), and the services on them: those whose SRV records have
-- the host as their target (RFC 6763, section 4.1).
use Rattle.std.specs.Prelude.{◌≡◌, ℕ, Bool, if◌then◌else◌, List, [], ◌∷◌, ◌++◌, map, codes, is_some}
use Rattle.std.specs.{Fmt.{decimal}, List.{filter, flat_map}, List.Sorted.{IsSorted}, Ordering.{nat_cmp}}
use Rattle.std.specs.{Borrow.{Bor}, Cmp.Lexicographic.{slice_cmp}, declared.cmp.Ordering.{Ordering}}
use Rattle.dns_name.specs.Name.{folded, name_text}
use Rattle.people_text.specs.Shown.{name_shown}
use Rattle.mdns_message.specs.{Parts.{address_of}, Resource.{type_number}}
use Rattle.mdns_message.specs.declared.record_type.RecordType.TheVariants as kind
use Rattle.mdns_join.specs.declared.latest.Latest.{Latest}
use Rattle.mdns_cache.specs.LentRecords.{last_lent}
use Rattle.mdns_browse.specs.{About.{Term, data_terms, instance_terms, keeps, name_terms}, RecordShown.{shown_words, spaced_wide}}
use Rattle.mdns_browse.specs.{Csv.{Nothing, Number, Text, csv_line, joined}, Json.{json_member, json_object, json_words, text_member}}
use Rattle.mdns_browse.specs.{RecordText.{data_words, spaced}, Services.{body_of, instance_in, instances_in, lasts_in, rows_of_set, same_text}}
use Rattle.mdns_browse.specs.declared.{about.Subject.{Subject}, instance.Instance.{Instance}, instance.Server.{Server}, host.Host.{Host}}
use Rattle.mdns_browse.specs.declared.host.HostedInstance.{HostedInstance}

-- a server of an instance: the instance's name, the host and the port
pub record ServedRow : Type 0 where
  pub instance : List ℕ
  pub target : List ℕ
  pub port : ℕ

-- a host: its name, its A records and then its AAAA records, and the services on it, in the order of the instances
pub record HostRow : Type 0 where
  pub name : List ℕ
  pub addresses : List Latest
  pub services : List ServedRow

-- the record has an address of its owner
abbrev pub has_address : Latest → Bool
has_address row = is_some (address_of (body_of row))

-- the names without those that are the same as the one before them
abbrev pub once : List ℕ → List (List ℕ) → List (List ℕ)
once before [] = []
once before (name ∷ names) = if same_text before name then once before names else name ∷ once name names

abbrev pub owners_of_addresses : List Latest → List (List ℕ)
owners_of_addresses rows = map (λ (row : Latest). row.resource.owner) (filter has_address rows)

-- the names of the hosts among rows in key order, in which the addresses of a host follow one another. No name is empty
abbrev pub host_names : List Latest → List (List ℕ)
host_names rows = once [] (owners_of_addresses rows)

abbrev pub service_at : Instance → Server → ServedRow
service_at instance server = record { instance = instance.name; target = server.target; port = server.port }

-- the servers of an instance, and those of all instances
abbrev pub services_at : Instance → List ServedRow
services_at instance = map (service_at instance) instance.servers

abbrev pub services_in : List Latest → List ServedRow
services_in rows = flat_map services_at (instances_in rows)

abbrev pub is_on : List ℕ → ServedRow → Bool
is_on name service = same_text service.target name

abbrev pub host_in : List Latest → List ℕ → HostRow
host_in rows name = record {
  name = name;
  addresses = rows_of_set rows name (type_number kind.A) ++ rows_of_set rows name (type_number kind.Aaaa);
  services = filter (is_on name) (services_in rows);
}

-- the hosts
abbrev pub hosts_in : List Latest → List HostRow
hosts_in rows = map (host_in rows) (host_names rows)

-- how people ask for services: by their instances
abbrev pub served_terms : List Latest → List ServedRow → List Term
served_terms rows services = flat_map (λ (service : ServedRow). instance_terms (instance_in rows service.instance)) services

-- and for a host: by its name, its addresses and the services on it
unfoldable pub keeps_host : List Subject → List Latest → HostRow → Bool
keeps_host about rows host =
    keeps about
    (name_terms host.name ++ (flat_map data_terms (map body_of host.addresses) ++ served_terms rows host.services))

-- what a report lists: the hosts about one of the subjects, of live records with their ends; all, where there are no subjects
abbrev pub hosts_about : List Subject → List (Latest × ℕ) → List HostRow
hosts_about about rows = filter (keeps_host about (lasts_in rows)) (hosts_in (lasts_in rows))

-- ---- text

-- the names of the instances on a host, each once
abbrev pub instances_on : HostRow → List (List ℕ)
instances_on host = once [] (map (λ (service : ServedRow). service.instance) host.services)

abbrev pub address_words : List Latest → List (List ℕ)
address_words rows = flat_map (λ row. data_words (body_of row)) rows

-- the line of a host: its name and its addresses
unfoldable pub host_line : HostRow → List ℕ
host_line host = name_text host.name ++ spaced (address_words host.addresses) ++ 10 ∷ []

unfoldable pub host_json : HostRow → List ℕ
host_json host =
    json_object
    (text_member (codes "host") (name_text host.name) ∷ text_member (codes "shown") (name_shown host.name)
    ∷ json_member (codes "addresses") (json_words (address_words host.addresses))
    ∷ json_member (codes "instances") (json_words (map name_text (instances_on host))) ∷ []) ++ 10 ∷ []

-- the line of a service for people: the instance's name and the port
unfoldable pub service_row : ServedRow → List ℕ
service_row service = codes "  " ++ name_shown service.instance ++ codes "  port " ++ decimal service.port ++ 10 ∷ []

-- the lines of a host for people, after an empty one: its name, its addresses, and below them the services
unfoldable pub host_rows : HostRow → List ℕ
host_rows host =
    10 ∷ name_shown host.name ++ spaced_wide (flat_map (λ row. shown_words (body_of row)) host.addresses) ++ 10 ∷ flat_map service_row host.services

-- a line for a service on the host of that name, with these addresses
abbrev pub service_csv : (host addresses : List ℕ) → ServedRow → List ℕ
service_csv host addresses service =
    csv_line (Text host ∷ Text addresses ∷ Text (name_shown service.instance) ∷ Number service.port ∷ [])

-- a line for each service, or one without a service
abbrev pub services_csv : (host addresses : List ℕ) → List ServedRow → List ℕ
services_csv host addresses [] = csv_line (Text host ∷ Text addresses ∷ Nothing ∷ Nothing ∷ [])
services_csv host addresses (service ∷ services) = flat_map (service_csv host addresses) (service ∷ services)

unfoldable pub host_csv : HostRow → List ℕ
host_csv host =
    services_csv (name_shown host.name) (joined (flat_map (λ row. shown_words (body_of row)) host.addresses)) host.services

abbrev pub hosts_header : List ℕ
hosts_header = codes "host,addresses,instance,port\r\n"

-- ---- as they are lent

abbrev pub served_lent : HostedInstance → ServedRow
served_lent service = record { instance = service.instance.now; target = service.target.now; port = service.port }

abbrev pub host_lent : Host → HostRow
host_lent host = record {
  name = host.name.now;
  addresses = map last_lent host.ipv4.now ++ map last_lent host.ipv6.now;
  services = map served_lent host.services.now;
}

abbrev pub target_cmp : HostedInstance → HostedInstance → Ordering
target_cmp one other = slice_cmp nat_cmp (folded one.target.now) (folded other.target.now)

-- the servers in the order of their targets, those of one target in the order in which they are listed
pub record AreByTarget (listed : List ServedRow) (services : List HostedInstance) : Type 0 where
  pub sorted : IsSorted target_cmp services
  pub same : (name : Bor (List ℕ)) → filter (is_on name.now) (map served_lent services) ≡ filter (is_on name.now) listed
