use Rattle.std.proofs.Common.{refl, arith}
use Rattle.mdns_listeners.proofs.ListenersLemmas.{named-all, named-next}
use Rattle.mdns_listeners.proofs.listeners.with_names.Goals as goal

pub loop-row-preserved : goal.loop-row-preserved
loop-row-preserved c = λ hearings listed.
    named-next hearings c.args.rows.now c.loop-row.row-index c.row-item.result
    (record { row = c.row-item.result; names = c.names_of.result }) c.loop-row.senders.items c.push.new.self.items
    c.loop-row-test.true c.row-item.is c.in_ok-push.ensures.items refl (c.loop-row.invariant hearings listed)
    (c.names_of.ensures hearings listed)

pub returns : goal.returns
returns c = λ hearings listed.
    named-all hearings c.args.rows.now c.loop-row.row-index _ (omega arith) (c.loop-row.invariant hearings listed)
