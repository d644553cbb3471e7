use Rattle.mdns_join.proofs.MomentLemmas.{last_greatest}
use Rattle.mdns_join.proofs.prune.last_of.Goals as goal

pub returns-clause-greatest : goal.returns-clause-greatest
returns-clause-greatest c = last_greatest c.args.items.now c.in_ok-last.field-0.now c.requires c.in_ok-last.ensures.item.3.0 c.in_ok-last.ensures.item.1
