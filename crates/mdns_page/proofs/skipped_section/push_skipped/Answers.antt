use Rattle.std.proofs.lemmas.Result.{IfOk-weaker}
use Rattle.mdns_page.specs.SkippedSection.{skipped_text}
use Rattle.mdns_page.proofs.PartLemmas.{parts2}
use Rattle.mdns_page.proofs.skipped_section.push_skipped.Goals as goal

pub returns : goal.returns
unfolding skipped_text
returns c =
    IfOk-weaker c.push_packets.result _ _
    (λ _ written. parts2 _ _ _ _ _ c.in_ok-push_str.ensures.bytes written) c.push_packets.ensures
