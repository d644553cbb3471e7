use Rattle.mdns_capture.proofs.SourceLemmas.{carries_if_sent}
use Rattle.mdns_capture.proofs.source_address.payload_and_source.Goals as goal

pub returns-in-Err-clause-alone : goal.returns-in-Err-clause-alone
returns-in-Err-clause-alone c = λ address sent.
    let carries = carries_if_sent c.args.frame.now address sent in absurd (c.in-Err.ensures.found carries.0 carries.1)
