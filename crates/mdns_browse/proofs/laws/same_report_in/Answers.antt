use Rattle.mdns_browse.specs.Report.{text_about}
use Rattle.mdns_browse.proofs.RowLemmas.{one_value, shared_value}
use Rattle.mdns_browse.proofs.laws.same_report_in.Goals as goal

pub returns-clause-shared : goal.returns-clause-shared
returns-clause-shared c about form ask heard others now text same = shared_value (text_about about form now ask) heard others now same text

pub returns-clause-same : goal.returns-clause-same
returns-clause-same c about form ask heard others now text other same =
    one_value (text_about about form now ask) heard others now same text other
