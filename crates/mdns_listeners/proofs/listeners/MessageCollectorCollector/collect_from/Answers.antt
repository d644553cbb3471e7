use Rattle.mdns_listeners.proofs.ListenersLemmas.{gathers-none}
use Rattle.mdns_listeners.proofs.listeners.MessageCollectorCollector.collect_from.Goals as goal

pub returns-clause-heard : goal.returns-clause-heard
returns-clause-heard g c =
    let taken = c.in_ok-reading.ensures.taken in
    record {
      packets = taken.packets;
      outcomes = taken.outcomes;
      is_reading = taken.is_reading;
      hears = λ begun earlier before gathered.
          c.go_on.ensures begun.by_file.items c.args.self.now earlier before taken.packets taken.outcomes gathered
          (taken.took c.args.self.now (gathers-none c.args.self.now));
    }
