use Rattle.std.proofs.Common.{arith, rules}
use Rattle.mdns_survey.specs.Why.{IsDamagedBy}
use Rattle.mdns_survey.proofs.OutcomeLemmas.{damaged_by}
use Rattle.mdns_survey.proofs.outcome.found_of.Goals as goal

pub returns-in-Err : goal.returns-in-Err
returns-in-Err c =
    let by : IsDamagedBy c.args.payload.now c.in-Err.fault = search rules in
    record {
      comes = λ frame carries. (
        c.args.payload.now,
        carries,
        damaged_by c.one_message_outcome.ensures.not_both c.args.moment c.args.payload.now c.in-Err.fault by,
      );
      why = λ frame carries sent. (c.args.payload.now, carries, by);
      payload = λ frame carries. carries;
      reads = tt;
      few = omega arith;
    }
