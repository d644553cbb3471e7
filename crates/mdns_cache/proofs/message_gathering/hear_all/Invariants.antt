use Rattle.std.proofs.Common.{◌≡◌, ◌++◌, List}
use Rattle.mdns_message.specs.declared.hearing.Hearing.{Hearing}
use Rattle.mdns_cache.specs.Contents.{StandsFor}
use Rattle.mdns_cache.proofs.message_gathering.hear_all.Given as goal

-- the hearings were heard, up to those that are left
abbrev pub invariant-loop-hearing : goal.invariant-loop-hearing
invariant-loop-hearing l = (heard : List Hearing) → StandsFor l.initial.gathering heard
    → (so_far : List Hearing) × (so_far ++ l.hearing-iterator ≡ heard ++ l.read) × StandsFor l.gathering so_far
