use Rattle.std.proofs.Common.{◌≡◌, ◌++◌, List}
use Rattle.mdns_message.specs.declared.hearing.Hearing.{Hearing}
use Rattle.mdns_lives.specs.Chronicle.{Chronicles}
use Rattle.mdns_lives.proofs.message_chronicle.hear_all.Given as goal

-- the hearings were added, up to those that are left
abbrev pub invariant-loop-hearing : goal.invariant-loop-hearing
invariant-loop-hearing l = (heard : List Hearing) → Chronicles l.initial.chronicle heard
    → (so_far : List Hearing) × (so_far ++ l.hearing-iterator ≡ heard ++ l.read) × Chronicles l.chronicle so_far
