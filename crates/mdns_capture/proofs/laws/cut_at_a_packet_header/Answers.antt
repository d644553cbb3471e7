use Rattle.mdns_capture.proofs.CutLemmas.{offset_of_packet}
use Rattle.mdns_capture.proofs.laws.cut_at_a_packet_header.Goals as goal

pub returns-clause-offset : goal.returns-clause-offset
returns-clause-offset c = offset_of_packet
