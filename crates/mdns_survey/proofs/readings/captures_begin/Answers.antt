use Rattle.std.proofs.Common.{sym}
use Rattle.mdns_survey.proofs.SpanLemmas.{begin_is}
use Rattle.mdns_survey.proofs.readings.captures_begin.Goals as goal

pub returns : goal.returns
returns c = λ packets have.
    begin_is c.args.as_of c.in_ok-span.span c.earlier.result c.captures_end-end.result _ (sym (c.in_ok-span.ensures packets have))
    (c.captures_end-end.ensures packets have) c.earlier.ensures
