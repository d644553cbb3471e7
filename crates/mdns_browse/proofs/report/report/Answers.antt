use Rattle.std.proofs.lemmas.Result.{IfOk-weaker}
use Rattle.std.specs.String.{string_bytes}
use Rattle.mdns_browse.proofs.ReportLemmas.{about_all}
use Rattle.mdns_browse.proofs.report.report.Goals as goal

pub returns-clause-written : goal.returns-clause-written
returns-clause-written c =
    IfOk-weaker c.report_in.result _ _
    (λ text written heard stands. (about_all c.args.ask heard c.args.now.nanos (string_bytes text)).0 (written heard stands))
    c.report_in.ensures.written
