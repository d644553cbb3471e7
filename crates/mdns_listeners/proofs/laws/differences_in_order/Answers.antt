use Rattle.mdns_listeners.proofs.SortLemmas.{ahead-are}
use Rattle.mdns_listeners.proofs.laws.differences_in_order.Goals as goal

pub returns : goal.returns
returns c = ahead-are
