use Rattle.std.proofs.Common.{[]}
use Rattle.mdns_browse.specs.declared.report.Form.TheVariants.{Lines}
use Rattle.mdns_browse.proofs.laws.same_report.Goals as goal

pub returns-clause-shared : goal.returns-clause-shared
returns-clause-shared c ask heard others now text same report =
    (c.report_about_all.ensures ask others now text).0
    (c.same_report_in.ensures.shared [] Lines ask heard others now text same ((c.report_about_all.ensures ask heard now text).1 report))

pub returns-clause-same : goal.returns-clause-same
returns-clause-same c ask heard others now text other same one two =
    c.same_report_in.ensures.same [] Lines ask heard others now text other same
    ((c.report_about_all.ensures ask heard now text).1 one) ((c.report_about_all.ensures ask others now other).1 two)
