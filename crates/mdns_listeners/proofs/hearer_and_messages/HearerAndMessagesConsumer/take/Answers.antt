use Rattle.std.proofs.lemmas.Result.{on_ok_weaker}
use Rattle.mdns_listeners.proofs.hearer_and_messages.HearerAndMessagesConsumer.take.Goals as goal

pub returns-clause-took : goal.returns-clause-took
returns-clause-took g c = on_ok_weaker c.take_once-2.result (λ took begun packets outcomes both.
    (c.in_ok-take_once.ensures begun.hearer packets outcomes both.0, took begun.messages packets outcomes both.1)) c.take_once-2.ensures
