use Rattle.mdns_listeners.proofs.LawLemmas.{one-list-heard}
use Rattle.mdns_listeners.proofs.laws.one_list_of_rows.Goals as goal

pub returns : goal.returns
returns c = one-list-heard
