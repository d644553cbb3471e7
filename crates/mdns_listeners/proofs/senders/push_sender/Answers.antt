use Rattle.std.proofs.Common.{◌++◌}
use Rattle.mdns_listeners.specs.Senders.{rows_of_sender, sender_row}
use Rattle.mdns_listeners.proofs.ListLemmas.{listed_more}
use Rattle.mdns_listeners.proofs.senders.push_sender.Goals as goal

pub loop-listener-preserved : goal.loop-listener-preserved
loop-listener-preserved c =
    let sender = c.args.sender.now in
    let own = c.args.own.now in
    listed_more (sender_row sender own) c.args.spans.now c.loop-listener.listener c.index-spans-listener.result
    c.loop-listener.all.items c.push.new.self.items (c.args.all.now.items ++ rows_of_sender c.args.spans.now sender own)
    c.sender_row.result c.loop-listener-test.true c.index-spans-listener.is c.in_ok-push.ensures.items c.sender_row.ensures
    c.loop-listener.invariant
