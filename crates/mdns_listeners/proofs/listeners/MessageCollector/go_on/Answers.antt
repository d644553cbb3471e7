use Rattle.mdns_listeners.proofs.ListenersLemmas.{gathered-more}
use Rattle.mdns_listeners.proofs.listeners.MessageCollector.go_on.Goals as goal
use Rattle.std.proofs.Common.{rules}

pub returns : goal.returns
returns c = search (rules, gathered-more)
