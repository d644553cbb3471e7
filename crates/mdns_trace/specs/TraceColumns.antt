-- Entries in readable columns, for people: the moments to the millisecond, the addresses short, and
-- the names and texts as they were sent.
use Rattle.std.specs.{Prelude.{ℕ, List, [], ◌∷◌, ◌++◌, ◌==◌, if◌then◌else◌, Option, Some, None, codes}, Fmt.{decimal}}
use Rattle.people_text.specs.{Address.{ipv6_short}, MomentText.{millis_text}}
use Rattle.mdns_browse.specs.{Columns.{padded}, RecordShown.{shown_record}, RecordText.{ipv4_text}}
use Rattle.mdns_capture.specs.declared.source_address.{SourceAddress.{SourceAddress}, SourceAddress.TheVariants.{V4, V6}}
use Rattle.mdns_capture.specs.Savefile.{PacketAt}
use Rattle.mdns_message.specs.{declared.hearing.Hearing.{Hearing}, Resource.{type_name, type_of}}
use Rattle.mdns_survey.specs.declared.reading.Span.{Span}
use Rattle.mdns_trace.specs.declared.{entry.Untold.{Untold}, span_line.CaptureSpans.{CaptureSpans}}
use Rattle.mdns_trace.specs.{HearingLine.{flush_text}, PacketLine.{untold_text}}

-- HEARINGS

-- an IPv4 address with dots, or an IPv6 address in its short form
abbrev pub source_shown : SourceAddress → List ℕ
source_shown (V4 octets) = ipv4_text octets
source_shown (V6 octets) = ipv6_short octets

-- the TTL in seconds, of which 0 is a goodbye (RFC 6762, section 10.1), and whether the cache-flush bit is set
abbrev pub said_text : Hearing → List ℕ
said_text hearing =
    (if hearing.ttl == 0 then codes "goodbye" else codes "ttl " ++ decimal hearing.ttl) ++ flush_text hearing.flush

-- The line of a hearing in a file of that name from that address: the moment, what was said of the record, the address, the
-- file, the type, and the record.
unfoldable pub hearing_row : List ℕ → SourceAddress → Hearing → List ℕ
hearing_row file source hearing =
    millis_text hearing.moment.nanos ++ codes "  " ++ padded 14 (said_text hearing) ++ codes "  "
    ++ padded 15 (source_shown source) ++ codes "  " ++ file ++ codes "  "
    ++ padded 4 (type_name (type_of hearing.heard.body)) ++ codes "  " ++ shown_record hearing.heard ++ 10 ∷ []

-- PACKETS

-- the line of a packet that told nothing, in a file of that name: the moment, the file, the offset of its header there, and
-- why
unfoldable pub packet_row : List ℕ → PacketAt → Untold → List ℕ
packet_row file packet untold =
    millis_text packet.moment.nanos ++ codes "  " ++ file ++ codes "  " ++ decimal packet.at ++ codes "  "
    ++ untold_text untold ++ 10 ∷ []

-- SPANS

-- the earliest and the latest moment, if there are any
abbrev pub bounds_shown : Option Span → List ℕ
bounds_shown None = codes "none"
bounds_shown (Some span) = millis_text span.first.nanos ++ codes " to " ++ millis_text span.last.nanos

-- the line of a file of that name: the span of its packets, that of its hearings, and the snapshot length
unfoldable pub span_row : List ℕ → CaptureSpans → List ℕ
span_row file spanned =
    file ++ codes "  packets " ++ bounds_shown spanned.reading.span ++ codes "  hearings " ++ bounds_shown spanned.hearings
    ++ codes "  snap " ++ decimal spanned.reading.snap_length ++ 10 ∷ []
