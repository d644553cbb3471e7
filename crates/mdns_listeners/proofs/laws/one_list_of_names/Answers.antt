use Rattle.mdns_listeners.proofs.NameLawLemmas.{same_names}
use Rattle.mdns_listeners.proofs.laws.one_list_of_names.Goals as goal
use Rattle.std.proofs.Common.{rules}

pub returns-clause-one : goal.returns-clause-one
returns-clause-one c = search (rules, same_names)

pub returns-clause-same : goal.returns-clause-same
returns-clause-same c = same_names
