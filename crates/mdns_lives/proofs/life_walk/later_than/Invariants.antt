use Rattle.mdns_join.specs.{Kept.{IsAscending}, Nanos.{nanos_of}}
use Rattle.mdns_lives.specs.LifeWalk.{GiveSameEnds}
use Rattle.mdns_lives.proofs.life_walk.later_than.Given as goal

-- the flushes that were dropped change no end
abbrev pub invariant-loop : goal.invariant-loop
invariant-loop l = record {
  ascending : IsAscending (nanos_of l.rest);
  same : GiveSameEnds l.heard.nanos (nanos_of l.flushes) (nanos_of l.rest);
}
