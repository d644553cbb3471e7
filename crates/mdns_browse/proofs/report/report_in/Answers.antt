use Rattle.mdns_browse.proofs.report.report_in.Goals as goal

pub returns-in-Some-clause-early : goal.returns-in-Some-clause-early
returns-in-Some-clause-early c = c.in-Some.ensures.some
