use Rattle.std.proofs.{Common.{codes, subst}, lemmas.Result.{on_err_weaker}}
use Rattle.std.specs.Io.KnownBytes.{Appends}
use Rattle.mdns_capture.specs.Output.{AppendsPrefix}
use Rattle.mdns_survey.proofs.SaidLemmas.{prefix-after, prefix-of-more}
use Rattle.mdns_survey.proofs.error_lines.write_want.Goals as goal

pub returns-in-Ok-clause-prefix : goal.returns-in-Ok-clause-prefix
returns-in-Ok-clause-prefix g c =
    on_err_weaker c.write_all-in-Ok.result
    (λ prefix. prefix-after _ _ _ c.args.program.now (codes ": out of memory")
    (subst (Appends (g.E.Sink.written c.args.err.now) (g.E.Sink.written c.write_all.new.out)) c.as_bytes.ensures.value
    c.in-Ok.ensures.whole) prefix)
    c.write_all-in-Ok.ensures.prefix

pub returns-in-Err-clause-prefix : goal.returns-in-Err-clause-prefix
returns-in-Err-clause-prefix g c =
    prefix-of-more _ _ c.args.program.now (codes ": out of memory")
    (subst (AppendsPrefix _ _) c.as_bytes.ensures.value c.in-Err.ensures.prefix)
