use Rattle.mdns_capture.proofs.HeaderLemmas.{TakesAtMost-both}
use Rattle.mdns_capture.proofs.savefile.read_packet.Goals as goal

pub returns-in_err-count-2-clause-most : goal.returns-in_err-count-2-clause-most
returns-in_err-count-2-clause-most g c =
    TakesAtMost-both _ _ _ _ _ _ _ c.read_full.auto.to c.in-Ok.ensures.ok.limit c.in_ok-count.ensures.bytes c.read_full-2.ensures.most

pub returns-clause-most : goal.returns-clause-most
returns-clause-most g c =
    TakesAtMost-both _ _ _ _ _ _ _ c.read_full.auto.to c.in-Ok.ensures.ok.limit c.in_ok-count.ensures.bytes c.read_full-2.ensures.most
