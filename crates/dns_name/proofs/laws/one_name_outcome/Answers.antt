use Rattle.dns_name.proofs.laws.one_name_outcome.Goals as goal
use Rattle.dns_name.proofs.{NameFaultLemmas.{name_not_both, name_fault_unique}, NameOutcomeLemmas.{name_outcome}}

pub returns-clause-outcome : goal.returns-clause-outcome
returns-clause-outcome c = name_outcome
