use Rattle.mdns_listeners.proofs.{HearerAndMessagesLemmas.{hears-capture, hears-nothing}, ListenersLemmas.{gathers-none}}
use Rattle.mdns_listeners.proofs.hearer_and_messages.HearerAndMessagesCollector.collect_from.Goals as goal

pub returns-clause-heard : goal.returns-clause-heard
returns-clause-heard g c =
    let taken = c.in_ok-reading.ensures.taken in
    let old = c.args.self.now in
    let Stands = g.H.Hearer.Stands in
    let took = taken.took old (hears-nothing Stands old.hearer, gathers-none old.messages) in
    record {
      packets = taken.packets;
      outcomes = taken.outcomes;
      is_reading = taken.is_reading;
      hears = λ begun earlier before both. (
        hears-capture Stands begun.hearer old.hearer c.listen_with.new.consumer.hearer before taken.packets taken.outcomes took.0 both.0,
        c.go_on.ensures begun.messages.by_file.items old.messages earlier before taken.packets taken.outcomes both.1 took.1,
      );
    }
