use Rattle.mdns_capture.proofs.FrameLemmas.{payload_unique}
use Rattle.mdns_capture.proofs.laws.one_payload.Goals as goal

pub returns : goal.returns
returns c = payload_unique
