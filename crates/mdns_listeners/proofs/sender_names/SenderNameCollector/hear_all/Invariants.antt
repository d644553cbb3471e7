use Rattle.std.proofs.Common.{◌≡◌, ◌++◌, List}
use Rattle.mdns_message.specs.declared.hearing.Hearing.{Hearing}
use Rattle.mdns_listeners.specs.SenderNames.{AddsNames, told_in}
use Rattle.mdns_listeners.proofs.sender_names.SenderNameCollector.hear_all.Given as goal

-- the names of the hearings were added, up to those that are left
abbrev pub invariant-loop-hearing : goal.invariant-loop-hearing
invariant-loop-hearing l =
    (so_far : List Hearing) × (so_far ++ l.hearing-iterator ≡ l.message) × AddsNames l.initial.self l.self (told_in so_far)
