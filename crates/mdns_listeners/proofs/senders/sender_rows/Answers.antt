use Rattle.std.proofs.{Common.{◌∙◌, ◌<◌, length, ap, arith}, lemmas.List.Elements.{All-drop}}
use Rattle.mdns_listeners.specs.Senders.{sender_in, sender_rows}
use Rattle.mdns_listeners.proofs.SenderLemmas.{rest_shorter, sender_more, up-drop}
use Rattle.mdns_listeners.proofs.senders.sender_rows.Goals as goal

pub loop-rest-preserved : goal.loop-rest-preserved
loop-rest-preserved c =
    let rest = c.loop-rest.rest.now in
    let back = c.split_at.result.1.now in
    let n = c.own_len.result in
    let some : 0 < length rest = omega arith in
    record {
      rows =
          sender_more c.args.spans.now rest c.split_at.result.0.now back c.first-item.result c.sender_in-sender.result.now n
          c.loop-rest.all.items c.push_sender.new.all.items (sender_rows c.args.rows.now c.args.spans.now) some c.first-item.is
          (c.sender_in-sender.ensures ∙ ap sender_in c.message.ensures) c.own_len.ensures.count c.loop-rest.invariant.ascending
          c.split_at.ensures.front c.split_at.ensures.back c.in_ok-push_sender.ensures c.loop-rest.invariant.rows;
      ascending =
          grind (arith, up-drop);
      addressed =
          grind (arith, All-drop);
    }

pub loop-rest-smaller : goal.loop-rest-smaller
loop-rest-smaller c =
    rest_shorter c.args.spans.now c.loop-rest.rest.now c.split_at.result.1.now c.first-item.result c.sender_in-sender.result.now
    c.own_len.result (omega arith) c.first-item.is (c.sender_in-sender.ensures ∙ ap sender_in c.message.ensures) c.own_len.ensures.count
    c.loop-rest.invariant.ascending c.split_at.ensures.back
