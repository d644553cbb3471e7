-- Entries as JSON (RFC 8259): one object a line.
use Rattle.std.specs.Prelude.{ℕ, List, [], ◌∷◌, ◌++◌, Option, Some, None, codes, decimal}
use Rattle.mdns_browse.specs.Json.{json_bool, json_member, json_object, json_string, resource_members}
use Rattle.mdns_capture.specs.{declared.source_address.SourceAddress.{SourceAddress}, Savefile.{PacketAt}}
use Rattle.mdns_message.specs.declared.hearing.Hearing.{Hearing}
use Rattle.mdns_survey.specs.{declared.reading.Span.{Span}, Reasons.{row_of}}
use Rattle.mdns_trace.specs.declared.{entry.Untold.{Untold}, span_line.CaptureSpans.{CaptureSpans}}
use Rattle.mdns_trace.specs.{HearingLine.{address_text}, MomentMember.{moment_member}, PacketLine.{fault_at, fault_text}}
use Rattle.mdns_trace.specs.declared.entry.Untold.TheVariants as untold

-- HEARINGS

-- the line of a hearing: the moment, the file, the source address, the record, the TTL and the cache-flush bit
unfoldable pub hearing_json : List ℕ → SourceAddress → Hearing → List ℕ
hearing_json file source hearing =
    json_object
    (moment_member (codes "moment") hearing.moment.nanos
    ∷ json_member (codes "file") (json_string file)
    ∷ json_member (codes "source") (json_string (address_text source))
    ∷ (resource_members hearing.heard
    ++ json_member (codes "ttl") (decimal hearing.ttl)
    ∷ json_member (codes "flush") (json_bool hearing.flush) ∷ [])) ++ 10 ∷ []

-- PACKETS

-- what came of a packet, and why
abbrev pub status_members : List ℕ → List ℕ → List (List ℕ)
status_members status cause =
    json_member (codes "status") (json_string status) ∷ json_member (codes "cause") (json_string cause) ∷ []

-- what came of a packet that told nothing, and the cause; of a damaged message also the offset of its fault
abbrev pub untold_members : Untold → List (List ℕ)
untold_members (untold.Skipped why) = status_members (codes "skipped") (row_of why).words
untold_members (untold.Refused damage) =
    status_members (codes "refused") (fault_text damage) ++ json_member (codes "at") (decimal (fault_at damage)) ∷ []
untold_members untold.Unlisted = status_members (codes "heard") (codes "no listed record")

-- the line of a packet that told nothing: the moment, the file, the offset of its header there, and why
unfoldable pub packet_json : List ℕ → PacketAt → Untold → List ℕ
packet_json file packet untold =
    json_object
    (moment_member (codes "moment") packet.moment.nanos
    ∷ json_member (codes "file") (json_string file)
    ∷ json_member (codes "offset") (decimal packet.at)
    ∷ untold_members untold) ++ 10 ∷ []

-- SPANS

-- the earliest and the latest moment; `null` where there is none
unfoldable pub bounds_json : Option Span → List ℕ
bounds_json None = codes "null"
bounds_json (Some span) =
    json_object (moment_member (codes "first") span.first.nanos ∷ moment_member (codes "last") span.last.nanos ∷ [])

-- the time spans of a capture, and its snapshot length
unfoldable pub span_members : CaptureSpans → List (List ℕ)
span_members spanned =
    json_member (codes "packets") (bounds_json spanned.reading.span)
    ∷ json_member (codes "hearings") (bounds_json spanned.hearings)
    ∷ json_member (codes "snap") (decimal spanned.reading.snap_length) ∷ []

-- the line of a time span
unfoldable pub span_json : List ℕ → CaptureSpans → List ℕ
span_json file spanned = json_object (json_member (codes "file") (json_string file) ∷ span_members spanned) ++ 10 ∷ []
