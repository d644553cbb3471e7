use Rattle.std.proofs.Common.{rules, arith, ◌∙◌, Some, ap}
use Rattle.mdns_capture.specs.Capture.{Gives, packet_lent}
use Rattle.mdns_survey.specs.{declared.reading.Span.{Span}, Span.{joined_spans}}
use Rattle.mdns_survey.proofs.ReadingLemmas.{lost-few, read-more, read-none}
use Rattle.mdns_survey.proofs.reading.read_capture.Goals as goal

pub loop-packet-init : goal.loop-packet-init
loop-packet-init g c = grind (arith, read-none)

pub loop-packet-preserved : goal.loop-packet-preserved
loop-packet-preserved g c =
    let so_far = c.loop-packet.invariant in
    let moves = c.next.follows.holds-at-none in
    let gives : Gives c.loop-packet.capture (packet_lent c.in-Ok-Some.packet) c.next.follows.lender-at-none =
    rw (c.in-Ok-Some.is, c.in-Ok-Some.field-0-is) at moves.answers in
    record {
      so_far = read-more g.C.Consumer.Took (g.R.Source.remaining c.args.reader) c.loop-packet.capture
          c.next.follows.lender-at-none (packet_lent c.in-Ok-Some.packet) _ c.loop-packet.consumer
          c.take_packet.new.consumer
          c.loop-packet.tally c.take_packet.new.tally c.loop-packet.lost c.take_packet.new.lost
          c.loop-packet.skips c.take_packet.new.skips c.loop-packet.span c.both-span.result gives
          (rw c.in-Ok-Ok.field-0-is at c.in-Ok-Ok.ensures.took) c.take_packet.ensures.lost c.in-Ok-Ok.ensures.skips
          (c.both-span.ensures ∙ ap (λ (s : Span). joined_spans c.loop-packet.span (Some s)) c.at.ensures) so_far.so_far;
      sound = so_far.sound;
      steady = λ steady. moves.steadily (so_far.steady steady);
      going = gives.going;
    }

pub take_packet-requires-clause-few : goal.take_packet-requires-clause-few
take_packet-requires-clause-few g c = search (rules, lost-few)
