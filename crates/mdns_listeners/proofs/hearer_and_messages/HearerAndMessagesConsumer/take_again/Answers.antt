use Rattle.mdns_listeners.proofs.hearer_and_messages.HearerAndMessagesConsumer.take_again.Goals as goal

pub returns-in-Some-clause-took : goal.returns-in-Some-clause-took
returns-in-Some-clause-took g c = λ hearings reads begun packets outcomes both. (
  c.in-Some.ensures.took hearings reads begun.hearer packets outcomes both.0,
  c.in_ok-hear_again.ensures.took hearings reads begun.messages packets outcomes both.1,
)
