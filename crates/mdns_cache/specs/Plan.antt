-- Plans: how hearings are split over caches and merged.
use Rattle.std.specs.Prelude.{List, ◌++◌}
use Rattle.mdns_message.specs.declared.hearing.Hearing.{Hearing}
use Rattle.mdns_cache.specs.declared.plan.{Plan.{Plan}, Plan.TheVariants.{Hear, Both'}}

-- the hearings of a plan: those of its lists
abbrev pub hearings_of : Plan → List Hearing
hearings_of (Hear hearings) = hearings.items
hearings_of (Both' p first q second) = hearings_of first ++ hearings_of second
