use Rattle.std.proofs.Common.{arith}
use Rattle.mdns_page.proofs.TickLemmas.{multiples-more}
use Rattle.mdns_page.proofs.ticks.multiples.Goals as goal

pub loop-index-preserved : goal.loop-index-preserved
loop-index-preserved c =
    multiples-more c.args.step c.args.low c.args.high c.loop-index.index c.div_ceil-first.result _ _ c.div_ceil-first.ensures
    (omega arith) c.loop-index-test.true c.loop-index.invariant c.in_ok-push.ensures.items
