use Rattle.std.proofs.Common.{refl}
use Rattle.mdns_page.proofs.collector.PageCollector.add.Goals as goal

pub returns-clause-messages : goal.returns-clause-messages
returns-clause-messages c = (c.go_on.new.self, refl, c.go_on.ensures)
