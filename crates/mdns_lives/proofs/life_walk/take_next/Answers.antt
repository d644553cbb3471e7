use Rattle.std.proofs.Common.{append_assoc, arith}
use Rattle.mdns_lives.proofs.WalkLemmas.{lives_from-on, lives_from-anew}
use Rattle.mdns_lives.proofs.life_walk.take_next.Goals as goal

pub returns-then-nanos-life : goal.returns-then-nanos-life
returns-then-nanos-life c = grind (arith, lives_from-on)

pub returns : goal.returns
returns c = grind (arith, append_assoc, lives_from-anew)
