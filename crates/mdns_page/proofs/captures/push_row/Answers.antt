use Rattle.mdns_page.specs.Captures.{capture_text}
use Rattle.mdns_page.proofs.PartLemmas.{parts2, parts4, parts6, parts7}
use Rattle.mdns_page.proofs.captures.push_row.Goals as goal

pub returns : goal.returns
unfolding capture_text
returns c =
    parts7 _ _ _ _ _ _ _ _ _ _ _ _ _ _ _ c.in_ok-push_str.ensures.bytes
    (parts4 _ _ _ _ _ _ _ _ _ c.in_ok-push_number_among.ensures c.in_ok-push_str-2.ensures.bytes c.in_ok-push_shown_word.ensures
    c.in_ok-push_sizes.ensures)
    c.in_ok-push_str-3.ensures.bytes c.in_ok-push_picture.ensures c.in_ok-push_str-4.ensures.bytes
    (parts6 _ _ _ _ _ _ _ _ _ _ _ _ _ c.in_ok-push_str-5.ensures.bytes c.in_ok-push_recorded_words.ensures
    (parts2 _ _ _ _ _ c.in_ok-push_str-6.ensures.bytes c.in_ok-push_ending.ensures) c.in_ok-push_str-7.ensures.bytes
    c.in_ok-push_outcomes.ensures c.in_ok-push_compared.ensures)
    c.in_ok-push_str-8.ensures.bytes
