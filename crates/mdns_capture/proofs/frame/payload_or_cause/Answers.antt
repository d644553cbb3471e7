use Rattle.mdns_capture.proofs.FrameLemmas.{given_found}
use Rattle.mdns_capture.proofs.frame.payload_or_cause.Goals as goal

pub returns-clause-found : goal.returns-clause-found
returns-clause-found c = given_found _ _ c.checked_payload.ensures
