use Rattle.mdns_capture.proofs.FrameLemmas.{payload_or_skip_by, payload_not_skipped}
use Rattle.mdns_capture.proofs.laws.payload_or_skip.Goals as goal

pub returns-clause-either : goal.returns-clause-either
returns-clause-either c = payload_or_skip_by

pub returns-clause-not_both : goal.returns-clause-not_both
returns-clause-not_both c = payload_not_skipped
