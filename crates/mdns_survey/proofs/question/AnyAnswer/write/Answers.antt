use Rattle.std.proofs.Common.{string_bytes, subst}
use Rattle.mdns_capture.specs.Output.{AppendsPrefix}
use Rattle.mdns_survey.specs.Readings.{summaries_of}
use Rattle.mdns_survey.proofs.question.AnyAnswer.write.Goals as goal

pub returns-in-Err-Early-clause-refused : goal.returns-in-Err-Early-clause-refused
returns-in-Err-Early-clause-refused g c = λ lefts hears.
    let early = rw c.in-Err-Early.field-0-is at c.in-Err-Early.ensures.early in early lefts hears

pub returns-in-Err-write_all-clause-refused : goal.returns-in-Err-write_all-clause-refused
returns-in-Err-write_all-clause-refused g c = λ lefts hears captures known. (
  summaries_of c.args.readings.now,
  (
    string_bytes c.in-Ok-prefaced.text,
    (string_bytes c.in-Ok.answer.text, c.in-Ok-prefaced.ensures, c.in-Ok.ensures.right lefts hears captures known),
    subst (AppendsPrefix (g.W.Sink.written c.args.out.now) (g.W.Sink.written c.write_all.new.out)) c.as_bytes.ensures.value
        c.in-Err-write_all.ensures.prefix,
  ),
)
