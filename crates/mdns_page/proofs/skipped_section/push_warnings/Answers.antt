use Rattle.std.proofs.lemmas.Result.{IfOk-weaker}
use Rattle.mdns_page.specs.SkippedSection.{warnings}
use Rattle.mdns_page.proofs.SkippedLemmas.{ten-rows}
use Rattle.mdns_page.proofs.skipped_section.push_warnings.Goals as goal

pub returns : goal.returns
unfolding warnings
returns c =
    IfOk-weaker c.push_warning-10.result _ _
    (λ _ written. ten-rows _ _ _ _ _ _ _ _ _ _ _ _ _ _ _ _ _ _ _ _ _ c.in_ok-push_warning.ensures
    c.in_ok-push_warning-2.ensures c.in_ok-push_warning-3.ensures c.in_ok-push_warning-4.ensures c.in_ok-push_warning-5.ensures
    c.in_ok-push_warning-6.ensures c.in_ok-push_warning-7.ensures c.in_ok-push_warning-8.ensures c.in_ok-push_warning-9.ensures written)
    c.push_warning-10.ensures
