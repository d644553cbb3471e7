use Rattle.std.proofs.Common.{◌≡◌, ◌++◌, drop, map}
use Rattle.mdns_join.specs.{Kept.{IsAscending}, Nanos.{nanos_of}}
use Rattle.mdns_lives.specs.{History.{AreInOrder}, LifeWalk.{lives_from, with_taken_back}}
use Rattle.mdns_lives.proofs.life_walk.push_lives.Given as goal

-- the lives so far, with those that the hearings left give, are all
abbrev pub invariant-loop-packed : goal.invariant-loop-packed
invariant-loop-packed l = record {
  lives : l.lives.items ++ map (with_taken_back l.goodbye) (lives_from (nanos_of l.later) l.life (drop l.packed-index l.heard))
      ≡ l.fn.lives.items ++ map (with_taken_back l.goodbye) (lives_from (nanos_of l.flushes) l.fn.life l.heard);
  in_order : AreInOrder (drop l.packed-index l.heard);
  ascending : IsAscending (nanos_of l.later);
}
