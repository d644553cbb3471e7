use Rattle.mdns_page.proofs.TickLemmas.{ticks-each, ticks-few}
use Rattle.mdns_page.proofs.laws.ticks.Goals as goal

pub returns-clause-few : goal.returns-clause-few
returns-clause-few c axis = ticks-few axis

pub returns-clause-each : goal.returns-clause-each
returns-clause-each c axis nanos = ticks-each axis nanos
