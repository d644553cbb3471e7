-- The line of a hearing: when and in which file it was heard, from which address, and what it says of which record.
use Rattle.std.specs.{Prelude.{ℕ, Bool, true, false, List, [], ◌∷◌, ◌++◌, codes}, Fmt.{decimal}}
use Rattle.mdns_capture.specs.declared.source_address.{SourceAddress.{SourceAddress}, SourceAddress.TheVariants.{V4, V6}}
use Rattle.mdns_capture.specs.Text.{moment_text}
use Rattle.mdns_message.specs.declared.hearing.Hearing.{Hearing}
use Rattle.mdns_browse.specs.RecordText.{ipv4_text, ipv6_text, resource_text}

-- an address as the data of A and AAAA records is written
abbrev pub address_text : SourceAddress → List ℕ
address_text (V4 octets) = ipv4_text octets
address_text (V6 octets) = ipv6_text octets

-- a word, after one space, where the cache-flush bit is set (RFC 6762, section 10.2)
abbrev pub flush_text : Bool → List ℕ
flush_text true = codes " flush"
flush_text false = []

-- the TTL in seconds, and whether the cache-flush bit is set
abbrev pub life_text : Hearing → List ℕ
life_text hearing = codes " ttl " ++ decimal hearing.ttl ++ flush_text hearing.flush

-- The line of a hearing in a file of that name from that address: the moment, the file, the address, the record, its
-- TTL, its cache-flush bit, and a line feed.
unfoldable pub hearing_line : List ℕ → SourceAddress → Hearing → List ℕ
hearing_line file source hearing =
    moment_text hearing.moment.nanos ++ 32 ∷ file ++ 32 ∷ address_text source ++ 32 ∷ resource_text hearing.heard
    ++ life_text hearing ++ 10 ∷ []
