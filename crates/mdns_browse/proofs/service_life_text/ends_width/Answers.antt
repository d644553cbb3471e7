use Rattle.std.proofs.{lemmas.Grind.{common_steps}, Common.{arith}}
use Rattle.mdns_browse.proofs.ColumnLemmas.{lent_width_more, widest_none}
use Rattle.mdns_browse.proofs.service_life_text.ends_width.Goals as goal

pub loop-service-init : goal.loop-service-init
loop-service-init c = widest_none

pub loop-service-preserved : goal.loop-service-preserved
loop-service-preserved c = grind (arith, common_steps, lent_width_more)
