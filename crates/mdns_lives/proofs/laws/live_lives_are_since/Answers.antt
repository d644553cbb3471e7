use Rattle.mdns_lives.proofs.SinceLemmas.{AreLiveSince-lives}
use Rattle.mdns_lives.proofs.laws.live_lives_are_since.Goals as goal
use Rattle.std.proofs.Common.{rules}

pub returns : goal.returns
returns c heard rows end none all = search (rules, AreLiveSince-lives)
