use Rattle.std.proofs.Common.{◌≡◌, ◌++◌, List}
use Rattle.mdns_capture.specs.declared.moment.Moment.{Moment}
use Rattle.mdns_message.specs.declared.hearing.Hearing.{Hearing}
use Rattle.mdns_join.specs.Nanos.{nanos_of}
use Rattle.mdns_cache.specs.{Contents.{StandsFor}, Repeats.{all_at_each}}
use Rattle.mdns_cache.proofs.message_gathering.hear_message.Given as goal

-- the hearings were heard at each moment, up to those that are left
abbrev pub invariant-loop-hearing : goal.invariant-loop-hearing
invariant-loop-hearing l = (ts : List Moment) (told : List Hearing) → nanos_of ts ≡ l.message.moments
    → StandsFor l.initial.gathering told
    → (so_far : List Hearing) × (so_far ++ all_at_each ts l.hearing-iterator ≡ told ++ all_at_each ts l.initial.hearing-iterator)
    × StandsFor l.gathering so_far
