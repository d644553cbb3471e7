use Rattle.std.proofs.Common.{sym}
use Rattle.mdns_join.proofs.FlushWalkLemmas.{with_next-some, with_next-taken, next_dropped}
use Rattle.mdns_join.proofs.flush_walk.FlushWalk.moments.Goals as goal

pub loop-self-preserved : goal.loop-self-preserved
loop-self-preserved g c =
    next_dropped c.args.set.now c.args.self.now _ c.loop-self.invariant (c.in-Some.key.now, c.in-Some.moments.now)
    c.loop-self.self-inside.rest (with_next-some _ _ _ c.in-Some.is) _
    (with_next-taken _ _ _ c.next-self-inside.ensures.steps) (sym c.in-Greater.ensures)
