use Rattle.std.proofs.Common.{arith, inl}
use Rattle.mdns_capture.specs.Capture.{packet_lent}
use Rattle.mdns_survey.specs.Outcomes.{heard}
use Rattle.mdns_survey.proofs.{LossLemmas.{counts-no-loss}, SkipLemmas.{counts-no-skip, heard-no-skip}}
use Rattle.mdns_survey.proofs.reading.take_packet.Goals as goal

pub pass-requires-clause-comes : goal.pass-requires-clause-comes
pass-requires-clause-comes g c = inl c.in-Err.ensures.found

pub returns-in-Some-clause-took : goal.returns-in-Some-clause-took
returns-in-Some-clause-took g c =
    let reads = c.in-Some.ensures.reads in
    record {
      outcome = heard reads.hearings;
      comes = (c.in-Ok.sent.0.now, c.in-Ok.ensures.carried, reads.reads);
      counts = λ outcomes counts. c.count_again.ensures outcomes reads.hearings reads.counted counts;
      took = c.in-Some.ensures.took reads.hearings reads.reads;
    }

pub returns-in-Some-clause-skips : goal.returns-in-Some-clause-skips
returns-in-Some-clause-skips g c = grind (arith, counts-no-skip, heard-no-skip)

pub returns-in-Some-clause-lost : goal.returns-in-Some-clause-lost
returns-in-Some-clause-lost g c =
    counts-no-loss c.payload_or_skip.ensures.not_both c.skip_is_of_the_cause.ensures (packet_lent c.args.packet.now)
    c.in-Ok.sent.0.now c.args.lost.now c.in-Ok.ensures.carried

pub returns-clause-lost : goal.returns-clause-lost
returns-clause-lost g c =
    counts-no-loss c.payload_or_skip.ensures.not_both c.skip_is_of_the_cause.ensures (packet_lent c.args.packet.now)
    c.in-Ok.sent.0.now c.args.lost.now c.in-Ok.ensures.carried

pub returns-in_err-found-clause-lost : goal.returns-in_err-found-clause-lost
returns-in_err-found-clause-lost g c =
    counts-no-loss c.payload_or_skip.ensures.not_both c.skip_is_of_the_cause.ensures (packet_lent c.args.packet.now)
    c.in-Ok.sent.0.now c.args.lost.now c.in-Ok.ensures.carried
