-- Services: which live records give them (RFC 6763, sections 4, 5 and 9). Names are compared folded (RFC 6762,
-- section 16), and each is spelled as in the record that gives it.
use Rattle.std.specs.Prelude.{◌≡◌, ◌⊎◌, ℕ, Bool, false, not, ◌&&◌, ◌||◌, nat_le, min, if◌then◌else◌, List, [], ◌∷◌, ◌++◌}
use Rattle.std.specs.Prelude.{length, map, drop, codes, Option, None, Some, is_some, option_map}
use Rattle.std.specs.{Cmp.Lexicographic.{slice_cmp}, List.{filter, filter_map}, List.Sorted.{IsStrictlySortedBy}, Ordering.{is_eq, nat_cmp}}
use Rattle.mdns_message.specs.{declared.hearing.Hearing.{Hearing}, Parts.{pointer_of, srv_of, text_of}, RecordSet.{RecordSet}}
use Rattle.mdns_message.specs.{Resource.{Body, type_number, key_cmp, set_key_cmp}, declared.parts.SrvData.{SrvData}}
use Rattle.mdns_message.specs.declared.record_type.RecordType.TheVariants as kind
use Rattle.dns_name.specs.Name.{IsLabel, folded, longest_label, wire_of}
use Rattle.mdns_join.specs.declared.latest.Latest.{Latest}
use Rattle.mdns_cache.specs.Live.{AreLiveRecords, key_of_last}
use Rattle.mdns_browse.specs.declared.instance.{Instance.{Instance}, Server.{Server}}

-- ---- names by their labels

-- a service name: any label, then `_tcp` or `_udp`, then `local` (sections 4.1.2 and 7)
pub record IsServiceName (name : List ℕ) : Type 0 where
  pub label : List ℕ
  pub sized : IsLabel label
  pub protocol : List ℕ
  pub transport : (protocol ≡ codes "_tcp") ⊎ (protocol ≡ codes "_udp")
  pub spelled : folded name ≡ wire_of (label ∷ protocol ∷ codes "local" ∷ [])

-- one label followed by the other name: an instance of that service (section 4.1)
pub record IsInstanceOf (service name : List ℕ) : Type 0 where
  pub label : List ℕ
  pub sized : IsLabel label
  pub spelled : folded name ≡ length label ∷ (label ++ folded service)

-- ---- names by their bytes

-- the texts are the same but for the case of ASCII letters
unfoldable pub same_text : List ℕ → List ℕ → Bool
same_text a b = is_eq (slice_cmp nat_cmp (folded a) (folded b))

-- the name is one label, with its length octet, followed by the other name: an instance of that service (section 4.1)
unfoldable pub is_instance_of : List ℕ → List ℕ → Bool
is_instance_of service [] = false
is_instance_of service (count ∷ bytes) =
    (nat_le 1 count && nat_le count (min longest_label (length bytes))) && same_text (drop count bytes) service

-- a service name: any label, then `_tcp` or `_udp`, then `local` (sections 4.1.2 and 7)
unfoldable pub is_service_name : List ℕ → Bool
is_service_name name =
    is_instance_of (wire_of (codes "_tcp" ∷ codes "local" ∷ [])) name
    || is_instance_of (wire_of (codes "_udp" ∷ codes "local" ∷ [])) name

-- the owner of the records that list the service types: `_services._dns-sd._udp.local` (section 9)
abbrev pub types_owner : List ℕ
types_owner = wire_of (codes "_services" ∷ codes "_dns-sd" ∷ codes "_udp" ∷ codes "local" ∷ [])

-- ---- what a record gives

-- the data of a last hearing's record
abbrev pub body_of : Latest → Body
body_of last = last.resource.body

-- the record gives a service type of that name (section 9)
pub record GivesType (last : Latest) (name : List ℕ) : Type 0 where
  pub pointer : pointer_of (body_of last) ≡ Some name
  pub owner : folded last.resource.owner ≡ types_owner
  pub service : IsServiceName name

-- the record gives a service instance of that name (section 4.1)
pub record GivesInstance (last : Latest) (name : List ℕ) : Type 0 where
  pub pointer : pointer_of (body_of last) ≡ Some name
  pub service : IsServiceName last.resource.owner
  pub instance : IsInstanceOf last.resource.owner name

-- The record stands where those do that give instances, and points to another name: one that isn't one label and the service's
-- name, as that of an instance is (section 4.1).
pub record GivesOther (last : Latest) (name : List ℕ) : Type 0 where
  pub pointer : pointer_of (body_of last) ≡ Some name
  pub service : IsServiceName last.resource.owner
  pub other : IsInstanceOf last.resource.owner name → ⊥

-- the name, if the test holds of it
abbrev pub name_if : (List ℕ → Bool) → Option (List ℕ) → Option (List ℕ)
name_if test None = None
name_if test (Some name) = if test name then Some name else None

-- the name of the service type that a record gives (section 9), of the service instance (section 4.1), and the name that is no
-- instance's of a record that stands where those do that give instances
unfoldable pub type_given : Latest → Option (List ℕ)
type_given row = name_if (λ name. same_text row.resource.owner types_owner && is_service_name name) (pointer_of (body_of row))

unfoldable pub instance_given : Latest → Option (List ℕ)
instance_given row =
    name_if (λ name. is_service_name row.resource.owner && is_instance_of row.resource.owner name) (pointer_of (body_of row))

unfoldable pub other_given : Latest → Option (List ℕ)
other_given row =
    name_if (λ name. is_service_name row.resource.owner && not (is_instance_of row.resource.owner name)) (pointer_of (body_of row))

-- ---- what rows give: last hearings of records, each record once, in key order

-- each record once, in key order
abbrev pub AreAscending : List Latest → Type 0
AreAscending rows = IsStrictlySortedBy key_cmp (map key_of_last rows)

-- the record set of an owner and a type number
abbrev pub set_for : List ℕ → ℕ → RecordSet
set_for owner number = record { owner = folded owner; number = number }

-- of rows those of the name's records with that type number, in their order
abbrev pub rows_of_set : List Latest → List ℕ → ℕ → List Latest
rows_of_set rows name number = filter (λ row. is_eq (set_key_cmp (key_of_last row).set (set_for name number))) rows

-- the data of these
abbrev pub data_of_set : List Latest → List ℕ → ℕ → List Body
data_of_set rows name number = map body_of (rows_of_set rows name number)

-- the server of a service, with the addresses of its target: those of its A records, then those of its AAAA records (RFC 2782)
abbrev pub server_at : List Latest → SrvData (List ℕ) → Server
server_at rows service =
    record {
      priority = service.priority;
      weight = service.weight;
      port = service.port;
      target = service.target;
      addresses = data_of_set rows service.target (type_number kind.A) ++ data_of_set rows service.target (type_number kind.Aaaa);
    }

-- the servers of SRV records that were found, and those of a name: where an instance is served (section 5)
abbrev pub servers_of : List Latest → List Latest → List Server
servers_of rows found = filter_map (λ b. option_map (server_at rows) (srv_of b)) (map body_of found)

abbrev pub servers_in : List Latest → List ℕ → List Server
servers_in rows name = servers_of rows (rows_of_set rows name (type_number kind.Srv))

-- the data of TXT records that were found, and those of a name: an instance's attributes (section 6)
abbrev pub texts_of : List Latest → List (List ℕ)
texts_of found = filter_map text_of (map body_of found)

abbrev pub texts_in : List Latest → List ℕ → List (List ℕ)
texts_in rows name = texts_of (rows_of_set rows name (type_number kind.Txt))

-- the instance of a name, with its servers and its texts
abbrev pub instance_in : List Latest → List ℕ → Instance
instance_in rows name = record { name = name; servers = servers_in rows name; texts = texts_in rows name }

-- the names of the service types
abbrev pub types_in : List Latest → List (List ℕ)
types_in rows = filter_map type_given rows

-- the service instances
abbrev pub instances_in : List Latest → List Instance
instances_in rows = map (instance_in rows) (filter_map instance_given rows)

-- the PTR record that gives an instance: its last hearing, its end, and since when it has been live, where that is known
pub record GivenRow : Type 0 where
  pub last : Latest
  pub end : ℕ
  pub since : Option ℕ

-- an instance, with the record that gives it
pub record InstanceRow : Type 0 where
  pub given : GivenRow
  pub instance : Instance

-- the instance to whose name a record points, with its servers and its texts among the rows
abbrev pub instance_row_in : List Latest → GivenRow → Option InstanceRow
instance_row_in rows given =
    option_map (λ name. record { given = given; instance = instance_in rows name }) (pointer_of (body_of given.last))

abbrev pub gives_instance : GivenRow → Bool
gives_instance given = is_some (instance_given given.last)

-- the instances of those records that give one
abbrev pub instance_rows_in : List Latest → List GivenRow → List InstanceRow
instance_rows_in rows given = filter_map (instance_row_in rows) (filter gives_instance given)

-- ---- what live records give, by their last hearings and ends in key order

-- the last hearings
abbrev pub lasts_in : List (Latest × ℕ) → List Latest
lasts_in rows = map (λ (row : Latest × ℕ). row.0) rows

-- a live record as one that may give an instance; it isn't known since when it has been live
abbrev pub given_of : Latest × ℕ → GivenRow
given_of row = record { last = row.0; end = row.1; since = None }

-- those that point from a service to a name that is no instance's
abbrev pub others_in : List (Latest × ℕ) → List (Latest × ℕ)
others_in rows = filter (λ row. is_some (other_given row.0)) rows

-- ---- what hearings give

-- the value is that of the live records
pub record IsOfLive {X : Type 0} (value_in : List (Latest × ℕ) → X) (heard : List Hearing) (now : ℕ) (value : X) : Type 0 where
  pub rows : List (Latest × ℕ)
  pub are : AreLiveRecords heard now rows
  pub is : value ≡ value_in rows

-- the names of the service types
abbrev pub AreTypes : List Hearing → ℕ → List (List ℕ) → Type 0
AreTypes = IsOfLive (λ rows. types_in (lasts_in rows))

-- the service instances
abbrev pub AreInstances : List Hearing → ℕ → List Instance → Type 0
AreInstances = IsOfLive (λ rows. instances_in (lasts_in rows))

-- each item belongs to the row at its place, and there are as many
abbrev pub AreEach : {X Y : Type 0} → (X → Y → Type 0) → List X → List Y → Type 0
AreEach Is [] [] = Unit {0}
AreEach Is (x ∷ xs) (y ∷ ys) = Is x y × AreEach Is xs ys
AreEach Is _ _ = ⊥
