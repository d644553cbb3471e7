use Rattle.mdns_lives.proofs.{GoodbyeLemmas.{with_taken_back-apart}, LaterLemmas.{same_walk}, WalkLemmas.{AreLivesBy-walked}}
use Rattle.mdns_lives.proofs.life_walk.lives_of.Goals as goal
use Rattle.std.proofs.Common.{arith}

pub returns-clause-walked : goal.returns-clause-walked
returns-clause-walked c = grind (arith, same_walk)

pub returns-clause-apart : goal.returns-clause-apart
returns-clause-apart c = grind (arith, with_taken_back-apart, returns-clause-walked c, AreLivesBy-walked)
