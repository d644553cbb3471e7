use Rattle.std.proofs.Common.{None, refl}
use Rattle.mdns_trace.proofs.span_line.read_spanned.Goals as goal

pub returns-in-Ok-clause-spanned : goal.returns-in-Ok-clause-spanned
returns-in-Ok-clause-spanned g c =
    let taken = c.in-Ok.ensures.taken in
    record {
      packets = taken.packets;
      outcomes = taken.outcomes;
      is_reading = taken.is_reading;
      hearings = taken.took (record { span = None }) refl;
    }
