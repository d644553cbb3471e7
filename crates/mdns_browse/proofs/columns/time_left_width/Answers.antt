use Rattle.std.proofs.{lemmas.Grind.{common_steps}, Common.{arith}}
use Rattle.mdns_browse.proofs.ColumnLemmas.{lent_width_more, widest_none}
use Rattle.mdns_browse.proofs.columns.time_left_width.Goals as goal

pub loop-row-init : goal.loop-row-init
loop-row-init c = widest_none

pub loop-row-preserved : goal.loop-row-preserved
loop-row-preserved c = grind (arith, common_steps, lent_width_more)
