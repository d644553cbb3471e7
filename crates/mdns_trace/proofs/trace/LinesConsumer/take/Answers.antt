use Rattle.std.proofs.{Common.{◌∙◌, ℕ, Option, subst, string_bytes}, lemmas.Bool.{false≢true}}
use Rattle.mdns_capture.specs.{Capture.{packet_lent}, Stream.{OneMoreFailed}}
use Rattle.mdns_survey.specs.Listen.{outcome_of}
use Rattle.mdns_trace.specs.{declared.inquiry.TraceScope.{TraceScope}, Trace.{AddsLines, AreWanted}}
use Rattle.mdns_trace.proofs.TraceLemmas.{part-more, part-on}
use Rattle.mdns_trace.proofs.trace.LinesConsumer.take.Goals as goal

pub returns-in-Ok-push_packet-clause-took : goal.returns-in-Ok-push_packet-clause-took
returns-in-Ok-push_packet-clause-took g c = λ begun packets outcomes taken.
    let packet = packet_lent c.args.packet.now in
    let outcome = outcome_of c.args.found.now in
    let written = c.in-Ok.ensures in
    let adds = subst (λ (wanted : TraceScope). AddsLines (AreWanted wanted packet outcome) (string_bytes c.write_piece.new.text)
    (string_bytes c.push_packet.new.text)) taken.wanted c.in-Ok-push_packet.ensures in
    record {
      wanted = taken.wanted;
      same = taken.same;
      prints = part-more packet outcome (string_bytes c.push_packet.new.text)
          (part-on (g.W.Sink.written c.write_piece.new.out) written.whole.0 (string_bytes c.write_piece.new.text)
          taken.prints written.whole.1 written.whole.2) adds;
      unfailed = written.well.unfailed ∙ taken.unfailed;
      stays = λ steady. written.well.stays (taken.stays steady);
    }

pub returns-in-Err-clause-broke : goal.returns-in-Err-clause-broke
returns-in-Err-clause-broke g c = λ begun packets outcomes taken.
    let written = c.in-Err.ensures in
    record {
      same = taken.same;
      rest = written.prefix.1.0;
      prints = part-on (g.W.Sink.written c.write_piece.new.out) written.prefix.0 written.prefix.1.0
          taken.prints written.prefix.1.1 written.prefix.1.2;
      fails = (
        λ steady. false≢true (written.well.answers (taken.stays steady)),
        subst (λ (count : Option ℕ). OneMoreFailed count (g.W.Sink.failures c.write_piece.new.out)) taken.unfailed written.well.failed,
      );
    }

pub returns-in-Err-push_packet-clause-broke : goal.returns-in-Err-push_packet-clause-broke
returns-in-Err-push_packet-clause-broke g c = λ begun packets outcomes taken.
    let written = c.in-Ok.ensures in
    record {
      same = taken.same;
      rest = string_bytes c.write_piece.new.text;
      prints = part-on (g.W.Sink.written c.write_piece.new.out) written.whole.0 (string_bytes c.write_piece.new.text)
          taken.prints written.whole.1 written.whole.2;
      fails = written.well.unfailed ∙ taken.unfailed;
    }
