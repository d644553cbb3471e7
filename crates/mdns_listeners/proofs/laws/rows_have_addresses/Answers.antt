use Rattle.mdns_listeners.proofs.HeardLemmas.{heard-whole}
use Rattle.mdns_listeners.proofs.laws.rows_have_addresses.Goals as goal

pub returns : goal.returns
returns c = heard-whole
