use Rattle.std.proofs.{Common.{arith}, lemmas.{Grind.{common_steps}, Result.{on_ok_weaker}}}
use Rattle.mdns_browse.proofs.{InstanceLemmas.{served-each}, ReachLemmas.{reaches-all, reaches-more}}
use Rattle.mdns_browse.proofs.report_walk.walk_servers.Goals as goal

pub loop-row-preserved : goal.loop-row-preserved
loop-row-preserved g c ascending =
    reaches-more g.met.S.Sheet.laws (c.loop-row.invariant ascending) (grind (arith, common_steps)) (c.in_ok-walk_server.ensures ascending)

pub returns : goal.returns
returns g c = grind (arith, common_steps, on_ok_weaker, reaches-all, served-each)
