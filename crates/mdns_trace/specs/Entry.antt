-- An entry: what is said at once of a file, in whatever form.
use Rattle.mdns_capture.specs.{Capture.{packet_lent}, Savefile.{PacketAt}, declared.source_address.SourceAddress.{SourceAddress}}
use Rattle.mdns_message.specs.{Borrowed.{hearing_lent}, declared.hearing.Hearing.{Hearing}}
use Rattle.mdns_trace.specs.declared.{entry.Entry.{Entry as LentEntry}, entry.Untold.{Untold}, span_line.CaptureSpans.{CaptureSpans}}
use Rattle.mdns_trace.specs.declared.verdict.Verdict.{Verdict}
use Rattle.mdns_trace.specs.declared.entry.Entry.TheVariants as lent

pub data Entry : Type 0 where
  -- a hearing that came from an address
  hearing_entry : SourceAddress → Hearing → Entry
  -- a packet that told nothing, and why
  packet_entry : PacketAt → Untold → Entry
  -- the time span of a capture
  span_entry : CaptureSpans → Entry
  -- what a file is
  file_entry : Verdict → Entry

-- the entry whose parts are lent
abbrev pub entry_lent : LentEntry → Entry
entry_lent (lent.Hearing source hearing) = hearing_entry source.now (hearing_lent hearing.now)
entry_lent (lent.Packet packet untold) = packet_entry (packet_lent packet.now) untold
entry_lent (lent.Span spanned) = span_entry spanned.now
entry_lent (lent.File verdict) = file_entry verdict.now
