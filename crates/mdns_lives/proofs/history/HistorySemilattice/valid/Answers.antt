use Rattle.mdns_lives.proofs.SecondsLemmas.{IsSeconds-value}
use Rattle.mdns_lives.proofs.history.HistorySemilattice.valid.Goals as goal

pub returns : goal.returns
returns c = IsSeconds-value c.self.inside.items.items c.args.self.now c.self.view_is
