-- Hearings as comma-separated values (RFC 4180).
use Rattle.std.specs.Prelude.{ℕ, List, [], ◌∷◌, ◌++◌, codes}
use Rattle.mdns_browse.specs.{Csv.{Flag, Moment, Number, Text, csv_line, resource_fields}, declared.report.Form.TheVariants.{Csv}}
use Rattle.mdns_capture.specs.declared.source_address.SourceAddress.{SourceAddress}
use Rattle.mdns_message.specs.declared.hearing.Hearing.{Hearing}
use Rattle.mdns_trace.specs.declared.{inquiry.Trace.{Trace}, inquiry.Trace.TheVariants.{Hearings}}
use Rattle.mdns_trace.specs.TraceColumns.{source_shown}

-- the line of a hearing: the moment, the file, the source address, the record, the TTL and the cache-flush bit
unfoldable pub hearing_csv : List ℕ → SourceAddress → Hearing → List ℕ
hearing_csv file source hearing =
    csv_line (Moment hearing.moment.nanos ∷ Text file ∷ Text (source_shown source)
    ∷ (resource_fields hearing.heard ++ Number hearing.ttl ∷ Flag hearing.flush ∷ []))

-- what stands before the lines of all files
abbrev pub trace_header : Trace → List ℕ
trace_header (Hearings Csv) = codes "moment,file,source,owner,type,data,ttl,flush\r\n"
trace_header trace = []
