use Rattle.std.proofs.Common.{◌≡◌, ◌∙◌, false, sym}
use Rattle.mdns_survey.specs.ProgramLines.{is_whole}
use Rattle.mdns_page.specs.Lead.{ending_warning}
use Rattle.mdns_page.proofs.PartLemmas.{parts5}
use Rattle.mdns_page.proofs.lead.push_ending_warning.Goals as goal

pub returns : goal.returns
unfolding ending_warning
returns c =
    let not : is_whole c.args.file.now.ending ≡ false = sym c.is_whole.ensures ∙ c.if-is_whole.false in
    rw not
    (parts5 _ _ _ _ _ _ _ _ _ _ _ c.in_ok-push_str.ensures.bytes c.in_ok-push_shown_word.ensures c.in_ok-push_str-2.ensures.bytes
    c.in_ok-write.ensures.bytes c.in_ok-push_str-3.ensures.bytes)
