use Rattle.mdns_survey.specs.Listen.{outcome_of}
use Rattle.mdns_trace.proofs.SpanLemmas.{hearings-more}
use Rattle.mdns_trace.proofs.span_line.HearingSpanConsumer.take.Goals as goal

pub returns-clause-took : goal.returns-clause-took
returns-clause-took c = λ begun packets outcomes so_far.
    rw c.both-self.ensures (hearings-more outcomes (outcome_of c.args.found.now) _ _ so_far (c.span_of_found.ensures _ c.requires.comes))
