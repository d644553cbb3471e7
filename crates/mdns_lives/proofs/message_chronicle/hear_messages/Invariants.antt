use Rattle.std.proofs.Common.{List, drop}
use Rattle.mdns_message.specs.declared.hearing.Hearing.{Hearing}
use Rattle.mdns_lives.specs.MessageChronicle.{RecordsAll, messages_with}
use Rattle.mdns_lives.proofs.message_chronicle.hear_messages.Given as goal

-- the messages before this place were heard
abbrev pub invariant-loop-place : goal.invariant-loop-place
invariant-loop-place l = (heard : List Hearing) → RecordsAll l.initial.chronicle (messages_with l.messages l.waiting) heard
    → RecordsAll l.chronicle (drop l.place (messages_with l.messages l.waiting)) heard
