use Rattle.std.proofs.{Common.{arith}, lemmas.Grind.{common_steps}}
use Rattle.mdns_browse.proofs.ReachLemmas.{reaches-more}
use Rattle.mdns_browse.proofs.report_walk.walk_given.Goals as goal

pub loop-row-preserved : goal.loop-row-preserved
loop-row-preserved g c ascending =
    reaches-more g.met.S.Sheet.laws (c.loop-row.invariant ascending) (grind (arith, common_steps)) (c.in_ok-walk_instance.ensures ascending)
