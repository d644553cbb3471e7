-- Resources: their types (RFC 1035, section 3.2; RFC 2782; RFC 3596) and data, which of them are the same record or of
-- the same set (RFC 6762, section 10.2), and their orders.
use Rattle.std.specs.Prelude.{◌≡◌, ◌==◌, ℕ, ◌/◌, ◌%◌, if◌then◌else◌, IsTrue, List, [], ◌∷◌, ◌++◌, Option, None, Some, codes}
use Rattle.std.specs.{Ordering.{nat_cmp, on, then_cmp}, declared.cmp.Ordering.{Ordering}, Cmp.Lexicographic.{slice_cmp}}
use Rattle.mdns_message.specs.declared.{body.RecordData.{RecordData}, record_type.RecordType.{RecordType}, resource.Resource.{Resource}}
use Rattle.mdns_message.specs.{declared.hearing.Hearing.{Hearing}, RecordSet.{RecordSet}, declared.key.Key.{Key}}
use Rattle.mdns_message.specs.declared.body.RecordData.TheVariants as body
use Rattle.mdns_message.specs.declared.record_type.RecordType.TheVariants as kind
use Rattle.dns_name.specs.Name.{folded}

-- the number of a type
abbrev pub type_number : RecordType → ℕ
type_number kind.A = 1
type_number kind.Ptr = 12
type_number kind.Txt = 16
type_number kind.Aaaa = 28
type_number kind.Srv = 33

-- the type of a number
abbrev pub numbered_type : ℕ → Option RecordType
numbered_type number =
    if number == 1 then Some kind.A else (if number == 12 then Some kind.Ptr else (if number == 16 then Some kind.Txt
    else (if number == 28 then Some kind.Aaaa else (if number == 33 then Some kind.Srv else None))))

-- the name of a type
abbrev pub type_name : RecordType → List ℕ
type_name kind.A = codes "A"
type_name kind.Ptr = codes "PTR"
type_name kind.Txt = codes "TXT"
type_name kind.Aaaa = codes "AAAA"
type_name kind.Srv = codes "SRV"

-- the data of a record, its name and text as bytes
abbrev pub Body : Type 0
Body = RecordData (List ℕ) (List ℕ)

-- the data, its names and texts read by these functions
abbrev pub data_by : {N T M U : Type 0} → (N → M) → (T → U) → RecordData N T → RecordData M U
data_by name text (body.A address) = body.A address
data_by name text (body.Aaaa address) = body.Aaaa address
data_by name text (body.Ptr target) = body.Ptr (name target)
data_by name text (body.Txt strings) = body.Txt (text strings)
data_by name text (body.Srv priority weight port target) = body.Srv priority weight port (name target)

-- the type
abbrev pub type_of : {N T : Type 0} → RecordData N T → RecordType
type_of (body.A _) = kind.A
type_of (body.Aaaa _) = kind.Aaaa
type_of (body.Ptr _) = kind.Ptr
type_of (body.Txt _) = kind.Txt
type_of (body.Srv _ _ _ _) = kind.Srv

-- the type number
abbrev pub number_of : {N T : Type 0} → RecordData N T → ℕ
number_of b = type_number (type_of b)

-- a number of 16 bits in big-endian order
abbrev pub word_bytes : ℕ → List ℕ
word_bytes n = n / 256 ∷ n % 256 ∷ []

-- the priority, weight and port of an SRV record
abbrev pub service_bytes : ℕ → ℕ → ℕ → List ℕ
service_bytes priority weight port = word_bytes priority ++ (word_bytes weight ++ word_bytes port)

-- the data's bytes, a name in it in its wire form
abbrev pub data_of : Body → List ℕ
data_of (body.A address) = address
data_of (body.Aaaa address) = address
data_of (body.Ptr target) = target
data_of (body.Txt strings) = strings
data_of (body.Srv priority weight port target) = service_bytes priority weight port ++ target

-- the data's bytes, a name in it folded
abbrev pub folded_data_of : Body → List ℕ
folded_data_of b = data_of (data_by folded (λ strings. strings) b)

-- the record set of an owner and a type: the folded owner and the type's number
abbrev pub set_key_for : List ℕ → RecordType → RecordSet
set_key_for owner k = record { owner = folded owner; number = type_number k }

-- the record set of a resource: its folded owner and its type number
abbrev pub set_key_of : Resource → RecordSet
set_key_of resource = record { owner = folded resource.owner; number = number_of resource.body }

-- the record of a resource: its set and its folded data
abbrev pub key_of : Resource → Key
key_of resource = record { set = set_key_of resource; folded = folded_data_of resource.body }

-- the set key of a key
abbrev pub set_of : Key → RecordSet
set_of key = key.set

-- of one record set: equal owners and types, names folded
pub record SameSet (a b : Resource) : Type 0 where
  pub owner : folded a.owner ≡ folded b.owner
  pub number : number_of a.body ≡ number_of b.body

-- the same record: equal owners, types and data, names folded
pub record SameRecord (a b : Resource) : Type 0 where
  pub owner : folded a.owner ≡ folded b.owner
  pub number : number_of a.body ≡ number_of b.body
  pub data_bytes : folded_data_of a.body ≡ folded_data_of b.body

-- a hearing of the record
abbrev pub IsOf : Key → Hearing → Type 0
IsOf key hearing = key_of hearing.heard ≡ key

-- a flush of the record set: a hearing of it with the cache-flush bit
pub record IsFlushOf (set : RecordSet) (hearing : Hearing) : Type 0 where
  pub of_set : set_key_of hearing.heard ≡ set
  pub flush : IsTrue hearing.flush

-- set keys in key order: the owner's bytes, then the type number
abbrev pub set_key_cmp : RecordSet → RecordSet → Ordering
set_key_cmp = then_cmp (on (λ k. k.owner) (slice_cmp nat_cmp)) (on (λ k. k.number) nat_cmp)

-- keys in key order: the set, then the data's bytes
abbrev pub key_cmp : Key → Key → Ordering
key_cmp = then_cmp (on (λ k. k.set) set_key_cmp) (on (λ k. k.folded) (slice_cmp nat_cmp))

-- data in the order of its type number, then its bytes
abbrev pub body_cmp : Body → Body → Ordering
body_cmp = then_cmp (on number_of nat_cmp) (on data_of (slice_cmp nat_cmp))

-- resources as spelled: the owner's bytes, the type number, then the data's bytes
abbrev pub resource_cmp : Resource → Resource → Ordering
resource_cmp = then_cmp (on (λ r. r.owner) (slice_cmp nat_cmp)) (on (λ r. r.body) body_cmp)
