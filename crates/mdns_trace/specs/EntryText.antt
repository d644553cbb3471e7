-- Entries in a form.
use Rattle.std.specs.Prelude.{ℕ, List}
use Rattle.mdns_browse.specs.declared.report.Form.{Form}
use Rattle.mdns_browse.specs.declared.report.Form.TheVariants as form
use Rattle.mdns_trace.specs.{Entry.{Entry, hearing_entry, packet_entry, span_entry, file_entry}, HearingLine.{hearing_line}}
use Rattle.mdns_trace.specs.{PacketLine.{packet_line}, SpanLine.{span_line}, TraceColumns.{hearing_row, packet_row, span_row}}
use Rattle.mdns_trace.specs.{TraceCsv.{hearing_csv}, TraceJson.{hearing_json, packet_json, span_json}, Verdict.{verdict_text}}
use Rattle.mdns_trace.specs.VerdictJson.{verdict_json}

-- what is written of an entry of a file of that name; what has no form of its own is in lines of words
abbrev pub entry_text : Form → List ℕ → Entry → List ℕ
entry_text form.Lines file (hearing_entry source hearing) = hearing_line file source hearing
entry_text form.Pretty file (hearing_entry source hearing) = hearing_row file source hearing
entry_text form.Json file (hearing_entry source hearing) = hearing_json file source hearing
entry_text form.Csv file (hearing_entry source hearing) = hearing_csv file source hearing
entry_text form.Pretty file (packet_entry packet untold) = packet_row file packet untold
entry_text form.Json file (packet_entry packet untold) = packet_json file packet untold
entry_text form file (packet_entry packet untold) = packet_line file packet untold
entry_text form.Pretty file (span_entry spanned) = span_row file spanned
entry_text form.Json file (span_entry spanned) = span_json file spanned
entry_text form file (span_entry spanned) = span_line file spanned
entry_text form.Json file (file_entry verdict) = verdict_json file verdict
entry_text form file (file_entry verdict) = verdict_text file verdict
