use Rattle.std.proofs.Common.{List, map, take}
use Rattle.mdns_message.specs.declared.hearing.Hearing.{Hearing}
use Rattle.mdns_listeners.specs.{Listeners.{AreNamed}, NamedSender.{sender_lent}, SenderNames.{ListsNames}}
use Rattle.mdns_listeners.proofs.listeners.with_names.Given as goal

-- the rows so far, with their names
abbrev pub invariant-loop-row : goal.invariant-loop-row
invariant-loop-row l = (hearings : List Hearing) → ListsNames l.names hearings
    → AreNamed hearings (take l.row-index l.rows) (map sender_lent l.senders.items)
