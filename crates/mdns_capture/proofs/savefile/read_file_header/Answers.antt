use Rattle.mdns_capture.proofs.HeaderLemmas.{HasFault-came}
use Rattle.mdns_capture.proofs.savefile.read_file_header.Goals as goal

pub returns-in-Ok-clause-fault : goal.returns-in-Ok-clause-fault
returns-in-Ok-clause-fault g c = HasFault-came _ _ _ _ _ c.read_full.auto.to c.in-Ok.ensures.bytes c.in-Ok.ensures.end
    c.header_by.ensures.fault
