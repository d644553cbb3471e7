use Rattle.std.proofs.Common.{refl}
use Rattle.mdns_lives.specs.MessageChronicle.{RecordsAll}
use Rattle.mdns_survey.specs.Filter.{filter_of}
use Rattle.mdns_survey.proofs.SelectedLemmas.{counted-heard}
use Rattle.mdns_page.proofs.service_lives.ServiceLivesRequestQuestion.collector.Goals as goal

pub returns-clause-nothing : goal.returns-clause-nothing
returns-clause-nothing c = (refl, c.new.ensures)

pub returns-clause-heard : goal.returns-clause-heard
returns-clause-heard c = λ now packets outcomes heard.
    counted-heard (RecordsAll now.hearer.contents now.hearer.memory) c.filter.result (filter_of c.args.self.now.as_of) outcomes
    c.filter.ensures heard.1
