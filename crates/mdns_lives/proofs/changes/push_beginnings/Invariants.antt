use Rattle.std.proofs.Common.{◌≡◌, ◌++◌, take}
use Rattle.mdns_join.specs.Nanos.{nanos_of}
use Rattle.mdns_lives.specs.Changes.{begins_of}
use Rattle.mdns_lives.proofs.changes.push_beginnings.Given as goal

abbrev pub invariant-loop-life : goal.invariant-loop-life
invariant-loop-life l = nanos_of l.begun.items ≡ nanos_of l.initial.begun.items ++ begins_of (take l.life-index l.lives)
