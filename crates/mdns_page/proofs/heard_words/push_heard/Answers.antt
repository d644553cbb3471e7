use Rattle.mdns_page.specs.HeardWords.{heard_text}
use Rattle.mdns_page.proofs.PartLemmas.{parts3}
use Rattle.mdns_page.proofs.heard_words.push_heard.Goals as goal

pub returns : goal.returns
unfolding heard_text
returns c =
    parts3 _ _ _ _ _ _ _ c.in_ok-push_str.ensures.bytes c.in_ok-push_times_words.ensures c.in_ok-push_str-2.ensures.bytes
