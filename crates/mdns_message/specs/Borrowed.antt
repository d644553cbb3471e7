-- The values of borrowed records and hearings.
use Rattle.std.specs.{Prelude.{ℕ, List}, Borrow.{Bor}}
use Rattle.mdns_message.specs.{Resource.{Body, data_by, data_of}, declared.body.RecordData.{RecordData}}
use Rattle.mdns_message.specs.declared.{body.RecordData.TheVariants.{Srv}, resource.Resource.{Resource}, hearing.Hearing.{Hearing}}
use Rattle.mdns_message.specs.declared.borrowed.{BorrowedResource.{BorrowedResource}, BorrowedHearing.{BorrowedHearing}}

-- the data of a record, borrowed
abbrev pub BorrowedBody : Type 0
BorrowedBody = RecordData (List ℕ) (Bor (List ℕ))

-- the value of borrowed data
abbrev pub body_lent : BorrowedBody → Body
body_lent = data_by (λ target. target) (λ strings. strings.now)

-- the value of a borrowed record
abbrev pub resource_lent : BorrowedResource → Resource
resource_lent r = record { owner = r.owner; body = body_lent r.body }

-- the value of a borrowed hearing
abbrev pub hearing_lent : BorrowedHearing → Hearing
hearing_lent h = record { moment = h.moment; heard = resource_lent h.heard; ttl = h.ttl; flush = h.flush }

-- DATA IN THE PARTS THAT IT IS COMPARED BY

-- the numbers of an SRV record; 0 of other data
abbrev pub priority_of : Body → ℕ
priority_of (Srv priority weight port target) = priority
priority_of _ = 0

abbrev pub weight_of : Body → ℕ
weight_of (Srv priority weight port target) = weight
weight_of _ = 0

abbrev pub port_of : Body → ℕ
port_of (Srv priority weight port target) = port
port_of _ = 0

-- the data's bytes, those of an SRV record after its port
abbrev pub tail_of : Body → List ℕ
tail_of (Srv priority weight port target) = target
tail_of b = data_of b
