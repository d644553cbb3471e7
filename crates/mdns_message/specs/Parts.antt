-- What data has, by its type; none where data of another type doesn't have it.
use Rattle.std.specs.{Prelude.{ℕ, List, Option, None, Some}, Borrow.{Bor}}
use Rattle.mdns_message.specs.{declared.body.RecordData.{RecordData}, Resource.{Body}, declared.parts.Address.{Address}}
use Rattle.mdns_message.specs.declared.parts.{Address.TheVariants.{V4, V6}, Content.{Content}, SrvData.{SrvData}}
use Rattle.mdns_message.specs.declared.body.RecordData.TheVariants as body
use Rattle.mdns_message.specs.declared.parts.Content.TheVariants as content

-- the address of a host (RFC 1035, section 3.4.1; RFC 3596)
abbrev pub address_of : {N T : Type 0} → RecordData N T → Option Address
address_of (body.A octets) = Some (V4 octets)
address_of (body.Aaaa octets) = Some (V6 octets)
address_of _ = None

-- the name to which a PTR record points (RFC 1035, section 3.3.12)
abbrev pub pointer_of : {N T : Type 0} → RecordData N T → Option N
pointer_of (body.Ptr target) = Some target
pointer_of _ = None

-- the strings of a TXT record (RFC 1035, section 3.3.14)
abbrev pub text_of : {N T : Type 0} → RecordData N T → Option T
text_of (body.Txt strings) = Some strings
text_of _ = None

-- where a service is (RFC 2782)
abbrev pub srv_of : {N T : Type 0} → RecordData N T → Option (SrvData N)
srv_of (body.Srv priority weight port target) =
    Some record { priority = priority; weight = weight; port = port; target = target }
srv_of _ = None

-- the value of a service whose target is borrowed
abbrev pub srv_lent : {N : Type 0} → SrvData (Bor N) → SrvData N
srv_lent service =
    record { priority = service.priority; weight = service.weight; port = service.port; target = service.target.now }

-- what the data says, whatever its type
abbrev pub content_of : Body → Content (List ℕ) (List ℕ)
content_of (body.A octets) = content.Address (V4 octets)
content_of (body.Aaaa octets) = content.Address (V6 octets)
content_of (body.Ptr target) = content.Name target
content_of (body.Txt strings) = content.Strings strings
content_of (body.Srv priority weight port target) =
    content.Srv record { priority = priority; weight = weight; port = port; target = target }

-- the value of a content whose names and strings are borrowed
abbrev pub content_lent : {N T : Type 0} → Content (Bor N) (Bor T) → Content N T
content_lent (content.Address address) = content.Address address
content_lent (content.Name name) = content.Name name.now
content_lent (content.Strings strings) = content.Strings strings.now
content_lent (content.Srv service) = content.Srv (srv_lent service)
