use Rattle.std.proofs.Common.{subst, sym}
use Rattle.mdns_capture.specs.Capture.{packet_lent}
use Rattle.mdns_survey.specs.Skips.{IsSkipOf}
use Rattle.mdns_survey.proofs.SkipLemmas.{skip-found}
use Rattle.mdns_survey.proofs.reading.pass.Goals as goal

pub returns-clause-skips : goal.returns-clause-skips
returns-clause-skips g c =
    let packet = packet_lent c.args.packet.now in
    c.add.ensures packet
    (subst (IsSkipOf packet) (sym c.why_of.ensures) (skip-found packet c.args.found.now c.requires.comes c.requires.why))
