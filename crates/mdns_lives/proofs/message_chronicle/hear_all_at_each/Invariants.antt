use Rattle.std.proofs.Common.{◌≡◌, ◌++◌, List}
use Rattle.mdns_message.specs.declared.hearing.Hearing.{Hearing}
use Rattle.mdns_cache.specs.Repeats.{all_at_each}
use Rattle.mdns_lives.specs.Chronicle.{Chronicles}
use Rattle.mdns_lives.proofs.message_chronicle.hear_all_at_each.Given as goal

-- the hearings were added at each moment, up to those that are left
abbrev pub invariant-loop-hearing : goal.invariant-loop-hearing
invariant-loop-hearing l = (told : List Hearing) → Chronicles l.initial.chronicle told
    → (so_far : List Hearing) × (so_far ++ all_at_each l.waiting l.hearing-iterator ≡ told ++ all_at_each l.waiting l.read)
    × Chronicles l.chronicle so_far
