use Rattle.mdns_listeners.proofs.SortLemmas.{ascending-is}
use Rattle.mdns_listeners.proofs.pairs.sort.Goals as goal
use Rattle.std.proofs.Common.{rules}

pub returns : goal.returns
returns c = search (rules, ascending-is)
