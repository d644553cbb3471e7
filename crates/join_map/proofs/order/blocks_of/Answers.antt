use Rattle.std.proofs.Common.{◌<◌, length, rules}
use Rattle.join_map.proofs.OrderLemmas.{cut-more, filled-more}
use Rattle.join_map.proofs.order.blocks_of.Goals as goal

pub loop-rest-preserved : goal.loop-rest-preserved
loop-rest-preserved c =
    let bs = c.loop-rest.blocks.items in
    let front = c.in_ok-from_places.field-0 in
    let some : 0 < length front = search rules in (
      cut-more bs c.push.new.self.items c.args.places.now c.loop-rest.rest.now front c.split_at.result.1.now _
          c.loop-rest.invariant.0 (search rules) c.split_at.ensures.back c.in_ok-push.ensures.items,
      filled-more bs c.push.new.self.items front c.loop-rest.invariant.1 some c.in_ok-push.ensures.items,
    )
