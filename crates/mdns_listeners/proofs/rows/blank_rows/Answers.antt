use Rattle.std.proofs.Common.{◌<◌, arith, length}
use Rattle.mdns_listeners.proofs.BlankLemmas.{blank-more, blank-none, placed-next}
use Rattle.mdns_listeners.proofs.rows.blank_rows.Goals as goal

pub loop-one-init : goal.loop-one-init
loop-one-init c =
    blank-none c.args.kept.items c.into_iter-one-iterator.result.rest.items c.in_ok-rows.rows.items c.args.numbers.now
    c.requires.sorted c.into_iter-one-iterator.ensures.into_iter_gives.0 c.in_ok-rows.ensures.items

pub loop-one-preserved : goal.loop-one-preserved
loop-one-preserved c =
    let so_far = c.loop-one.invariant in
    let within = placed-next c.args.kept.items c.loop-one.yielded _ _ c.in-Some.one c.requires.placed.0 c.requires.placed.1
    so_far.left c.in-Some.ensures.steps.0 in
    let room : c.in-Some.one.place < length c.loop-one.numbers = omega (arith, within, c.requires.room, c.loop-one.auto.numbers) in
    blank-more c.args.kept.items c.loop-one.yielded _ _ c.in-Some.one c.into_parts-message.result.0.items
    c.into_parts-message.result.1 c.loop-one.rows.items c.add_row.new.rows.items c.loop-one.numbers c.in_ok-number.number
    c.requires.placed.0 c.requires.placed.1 so_far c.in-Some.ensures.steps.0 c.into_parts-message.ensures.message
    c.into_parts-message.ensures.place c.in_ok-number.ensures.added c.in_ok-number.ensures.number room
