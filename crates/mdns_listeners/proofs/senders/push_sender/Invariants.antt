use Rattle.std.proofs.Common.{◌≡◌, ◌++◌, drop, map}
use Rattle.std.specs.List.{enumerate_from}
use Rattle.mdns_listeners.specs.Senders.{rows_of_sender, sender_row}
use Rattle.mdns_listeners.proofs.senders.push_sender.Given as goal

-- the rows of the listeners before the index were appended
abbrev pub invariant-loop-listener : goal.invariant-loop-listener
invariant-loop-listener l =
    l.all.items ++ map (sender_row l.sender l.own) (enumerate_from l.listener (drop l.listener l.spans))
    ≡ l.initial.all.items ++ rows_of_sender l.spans l.sender l.own
