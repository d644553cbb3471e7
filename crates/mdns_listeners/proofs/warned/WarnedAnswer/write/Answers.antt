use Rattle.std.proofs.Common.{string_bytes}
use Rattle.std.proofs.lemmas.Result.{IfErr-weaker, on_ok_weaker}
use Rattle.mdns_capture.specs.Output.{writing}
use Rattle.mdns_survey.proofs.ListenedLemmas.{have-spans}
use Rattle.mdns_listeners.proofs.WarnedLemmas.{warned-refused, warned-written}
use Rattle.mdns_listeners.proofs.warned.WarnedAnswer.write.Goals as goal

pub returns-in-Ok-clause-written : goal.returns-in-Ok-clause-written
returns-in-Ok-clause-written g c = on_ok_weaker c.write.result (λ written lefts hears.
    let (warnings, warns, is) = c.in-Ok.ensures hears.packets hears.outcomes hears.heard.1
    (have-spans lefts hears.packets hears.outcomes c.args.readings.now hears.read) in
    warned-written _ (g.Q.Question.asked c.args.self.question) lefts c.args.readings.now hears (string_bytes c.args.preface) warnings _
    warns is (writing g.W.Sink c.args.out.now c.write.new.out) (written lefts (record {
      packets = hears.packets;
      outcomes = hears.outcomes;
      read = hears.read;
      heard = hears.heard.0;
    }))) c.write.ensures.written

pub returns-in-Ok-clause-refused : goal.returns-in-Ok-clause-refused
returns-in-Ok-clause-refused g c = IfErr-weaker c.write.result _ _ (λ fault refused lefts hears.
    let (warnings, warns, is) = c.in-Ok.ensures hears.packets hears.outcomes hears.heard.1
    (have-spans lefts hears.packets hears.outcomes c.args.readings.now hears.read) in
    warned-refused _ (g.Q.Question.asked c.args.self.question) lefts c.args.readings.now hears (string_bytes c.args.preface) warnings _
    warns is (writing g.W.Sink c.args.out.now c.write.new.out) fault (refused lefts (record {
      packets = hears.packets;
      outcomes = hears.outcomes;
      read = hears.read;
      heard = hears.heard.0;
    }))) c.write.ensures.refused
