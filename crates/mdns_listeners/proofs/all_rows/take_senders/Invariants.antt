use Rattle.std.proofs.Common.{◌≡◌, drop, map, string_bytes}
use Rattle.std.specs.List.{fold}
use Rattle.mdns_listeners.specs.{AllRows.{sender_at}, NamedSender.{sender_lent}, RowSheet.{taken}}
use Rattle.mdns_listeners.proofs.all_rows.take_senders.Given as goal

-- the sheet after the rows so far, and after those that are left
abbrev pub invariant-loop-sender : goal.invariant-loop-sender
invariant-loop-sender l =
    fold taken l.sheet (map (sender_at l.sheet.form (map string_bytes l.names)) (map sender_lent (drop l.sender-index l.senders)))
    ≡ fold taken l.fn.sheet (map (sender_at l.fn.sheet.form (map string_bytes l.names)) (map sender_lent l.senders))
