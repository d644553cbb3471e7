use Rattle.mdns_message.specs.{Message.{Run, Adds}, RecordAt.{RecordStands}, Known.{IsBufferOf}}
use Rattle.dns_name.proofs.PointerLemmas.{Knowing}
use Rattle.mdns_message.proofs.message.records.Given as goal

abbrev pub invariant-loop : goal.invariant-loop
invariant-loop l =
    Knowing (Adds l.moment (Run (RecordStands l.message l.section) l.counter) l.start l.initial.heard.hearings l.heard.hearings l.offset
    × IsBufferOf l.message l.heard.buffer)
    l.message l.reader.names.pointers.ends.items
