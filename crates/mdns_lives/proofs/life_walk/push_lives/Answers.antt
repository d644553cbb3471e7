use Rattle.std.proofs.{lemmas.{Grind.{common_steps}, List.{at_drop_all, drop_more}}, Common.{arith}}
use Rattle.mdns_join.specs.{laws.Kept.{IsAscending-from_above}}
use Rattle.mdns_lives.proofs.{LaterLemmas.{same_lives}, OrderLemmas.{in_order-rest}, WalkLemmas.{lives_from-over}}
use Rattle.mdns_lives.proofs.life_walk.push_lives.Goals as goal

pub returns : goal.returns
returns c = grind (arith, common_steps, lives_from-over, at_drop_all)

pub loop-packed-preserved : goal.loop-packed-preserved
loop-packed-preserved c = grind (arith, drop_more, same_lives, in_order-rest, IsAscending-from_above)
