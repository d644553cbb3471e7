use Rattle.mdns_browse.proofs.NameLemmas.{instance-gives, other-gives, type-gives}
use Rattle.mdns_browse.proofs.laws.given_by_labels.Goals as goal

pub returns-clause-gives_type : goal.returns-clause-gives_type
returns-clause-gives_type c = type-gives

pub returns-clause-gives_instance : goal.returns-clause-gives_instance
returns-clause-gives_instance c = instance-gives

pub returns-clause-gives_other : goal.returns-clause-gives_other
returns-clause-gives_other c = other-gives
