use Rattle.mdns_survey.proofs.OutcomeLemmas.{same_telling, some_telling}
use Rattle.mdns_survey.proofs.laws.one_telling.Goals as goal

pub returns-clause-unique : goal.returns-clause-unique
returns-clause-unique c = same_telling c.one_packet_outcome.ensures.unique c.one_reading.ensures.unique

pub returns-clause-exists : goal.returns-clause-exists
returns-clause-exists c = some_telling c.one_packet_outcome.ensures.exists c.one_reading.ensures.exists
