-- The names that a sender goes by: the owners of the A and AAAA records whose data is its address (RFC 1035, section 3.4.1; RFC
-- 3596). Names that are equal once folded (RFC 6762, section 16) count once, in their least spelling. A list of hearings is
-- read as a set: only which hearings it contains counts.
use Rattle.std.specs.Prelude.{◌≡◌, ◌≢◌, ◌↔◌, ℕ, List, ◌∷◌, ◌++◌, Option, None, Some, map, Contains}
use Rattle.std.specs.{Option.{option_to_list}, List.{flat_map}, List.Sorted.{IsStrictlySortedBy}, Cmp.Lexicographic.{slice_cmp}}
use Rattle.std.specs.{Ordering.{nat_cmp, on, then_cmp}, declared.cmp.Ordering.{Ordering}}
use Rattle.std.specs.declared.cmp.Ordering.TheVariants.{Greater}
use Rattle.mdns_capture.specs.declared.source_address.{SourceAddress.{SourceAddress}, SourceAddress.TheVariants.{V4, V6}}
use Rattle.dns_name.specs.Name.{folded}
use Rattle.mdns_message.specs.{declared.body.RecordData.TheVariants.{A, Aaaa}, declared.hearing.Hearing.{Hearing}, Resource.{Body}}
use Rattle.mdns_listeners.specs.declared.sender_names.SenderAddressName.{SenderAddressName}

-- the address that is the data of an A or AAAA record
abbrev pub address_in : Body → Option SourceAddress
address_in (A octets) = Some (V4 octets)
address_in (Aaaa octets) = Some (V6 octets)
address_in _ = None

-- the name is the owner of a record that was heard, whose data is the sender's address
pub record IsNameOf (sender : SourceAddress) (heard : List Hearing) (name : List ℕ) : Type 0 where
  pub hearing : Hearing
  pub among : Contains heard hearing
  pub address : address_in hearing.heard.body ≡ Some sender
  pub owner : hearing.heard.owner ≡ name

-- the name is the least of the sender's names that are equal to it once folded, by the bytes of their wire forms
pub record IsLeastName (sender : SourceAddress) (heard : List Hearing) (name : List ℕ) : Type 0 where
  pub is_name : IsNameOf sender heard name
  pub least : (other : List ℕ) → IsNameOf sender heard other → folded other ≡ folded name → slice_cmp nat_cmp name other ≢ Greater

-- names in the order of their folded wire forms
abbrev pub by_folded : List ℕ → List ℕ → Ordering
by_folded = on folded (slice_cmp nat_cmp)

-- the names that the sender goes by, ascending
pub record AreNames (sender : SourceAddress) (heard : List Hearing) (names : List (List ℕ)) : Type 0 where
  pub ascending : IsStrictlySortedBy by_folded names
  pub exactly : (name : List ℕ) → Contains names name ↔ IsLeastName sender heard name

-- THE NAMES OF ALL SENDERS

-- the version of IP, and the octets
abbrev pub address_bytes : SourceAddress → List ℕ
address_bytes (V4 octets) = 4 ∷ octets
address_bytes (V6 octets) = 6 ∷ octets

-- IPv4 addresses before IPv6 addresses, then by their octets
abbrev pub address_cmp : SourceAddress → SourceAddress → Ordering
address_cmp = on address_bytes (slice_cmp nat_cmp)

-- an address with a name of its
abbrev pub named : SourceAddress → List ℕ → SenderAddressName
named source name = record { source = source; folded = folded name; name = name }

-- the address and the name that a hearing tells, if any
abbrev pub named_in : Hearing → List SenderAddressName
named_in hearing = map (λ source. named source hearing.heard.owner) (option_to_list (address_in hearing.heard.body))

-- those that the hearings tell, in their order
abbrev pub told_in : List Hearing → List SenderAddressName
told_in heard = flat_map named_in heard

-- one address and, once folded, one name, of which the first spelling isn't greater
pub record IsAtMost (one other : SenderAddressName) : Type 0 where
  pub source : one.source ≡ other.source
  pub folded : one.folded ≡ other.folded
  pub name : slice_cmp nat_cmp one.name other.name ≢ Greater

-- some of those told, among which each one told has one that is at most it
pub record Covers (held told : List SenderAddressName) : Type 0 where
  pub among : (one : SenderAddressName) → Contains held one → Contains told one
  pub each : (other : SenderAddressName) → Contains told other → (one : SenderAddressName) × Contains held one × IsAtMost one other

-- names are held that suffice for those of all senders
pub record HoldsNames (held : List SenderAddressName) (heard : List Hearing) : Type 0 where
  pub covers : Covers held (told_in heard)

-- the names that are held suffice for those told: each of these has one that is at most it
abbrev pub SufficeFor : List SenderAddressName → List SenderAddressName → Type 0
SufficeFor held told = (other : SenderAddressName) → Contains told other → (one : SenderAddressName) × Contains held one × IsAtMost one other

-- the new names cover what the old ones covered, and more that was told
abbrev pub AddsNames : List SenderAddressName → List SenderAddressName → List SenderAddressName → Type 0
AddsNames old new more = (told : List SenderAddressName) → Covers old told → Covers new (told ++ more)

-- by address, then by folded name
abbrev pub by_name : SenderAddressName → SenderAddressName → Ordering
by_name = then_cmp (on (λ one. one.source) address_cmp) (on (λ one. one.folded) (slice_cmp nat_cmp))

-- by address, folded name and spelling
abbrev pub by_spelling : SenderAddressName → SenderAddressName → Ordering
by_spelling = then_cmp by_name (on (λ one. one.name) (slice_cmp nat_cmp))

-- the addresses, and the name beside each, of names that suffice, each address and folded name once and in order
pub record ListsNames (lists : List SourceAddress × List (List ℕ)) (heard : List Hearing) : Type 0 where
  pub held : List SenderAddressName
  pub ascending : IsStrictlySortedBy by_name held
  pub suffices : HoldsNames held heard
  pub sources : lists.0 ≡ map (λ one. one.source) held
  pub names : lists.1 ≡ map (λ one. one.name) held
