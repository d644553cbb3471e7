use Rattle.std.proofs.Common.{inr, rules}
use Rattle.mdns_trace.proofs.trace_answer.answer_traces.Goals as goal

pub returns-in-Err-write_traces-clause-refused : goal.returns-in-Err-write_traces-clause-refused
returns-in-Err-write_traces-clause-refused g c = λ is. record {
  fault = c.survey_fault.result;
  stops = inr (
    c.write_all.new.out,
    (
      search rules,
      (c.in-Err-write_traces.fault, (c.survey_fault.ensures, c.in-Err-write_traces.ensures.stops)),
    ),
  );
  says = c.say_fault-in-Err-write_traces.ensures.says;
}
