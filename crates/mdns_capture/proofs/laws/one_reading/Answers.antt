use Rattle.mdns_capture.proofs.OneReadingLemmas.{same_reading, sound_reading}
use Rattle.mdns_capture.proofs.laws.one_reading.Goals as goal

pub returns-clause-unique : goal.returns-clause-unique
returns-clause-unique c = same_reading

pub returns-clause-sound : goal.returns-clause-sound
returns-clause-sound c = sound_reading
