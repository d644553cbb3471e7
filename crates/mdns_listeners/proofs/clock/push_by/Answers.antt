use Rattle.mdns_listeners.specs.Clock.{by_words}
use Rattle.mdns_listeners.proofs.TextLemmas.{three_appended}
use Rattle.mdns_listeners.proofs.clock.push_by.Goals as goal

pub returns : goal.returns
unfolding by_words lib.Utf8.encode
returns c =
    three_appended _ _ _ _ _ _ _ c.in_ok-push_words.ensures c.in_ok-push_messages.ensures c.in_ok-push_words-2.ensures
