use Rattle.mdns_capture.specs.Output.{writing}
use Rattle.mdns_survey.proofs.QuestionLemmas.{answer-summed, bare-refused, bare-written, hears-readers}
use Rattle.mdns_survey.proofs.question.survey_with.Goals as goal

pub returns-in-Ok-write-clause-written : goal.returns-in-Ok-write-clause-written
returns-in-Ok-write-clause-written g c =
    let asked = g.Q.Question.asked c.args.question in
    let out = writing g.W.Sink c.args.out.now c.write.new.out in
    let hears = hears-readers g.Q.Collector.Collector.HeardAll (g.Q.Question.Heard c.args.question) _ c.in-Ok.collector
    c.collect_all.new.collector _ _ c.in-Ok.ensures.nothing c.in-Ok.ensures.heard c.as_slice-2.ensures.value
    c.in-Ok-collect_all.ensures.listened in
    answer-summed asked _ out c.in-Ok-collect_all.readings.items c.as_slice.result.now c.as_slice-2.result.now
    c.in-Ok-summaries_of.summaries.items c.as_slice.ensures.value c.as_slice-2.ensures.value c.in-Ok-summaries_of.ensures
    (bare-written asked _ _ c.new-preface.ensures.bytes out _ (c.in-Ok-write.ensures.written _ hears))

pub returns-clause-refused : goal.returns-clause-refused
returns-clause-refused g c =
    let asked = g.Q.Question.asked c.args.question in
    let out = writing g.W.Sink c.args.out.now c.write.new.out in
    let hears = hears-readers g.Q.Collector.Collector.HeardAll (g.Q.Question.Heard c.args.question) _ c.in-Ok.collector
    c.collect_all.new.collector _ _ c.in-Ok.ensures.nothing c.in-Ok.ensures.heard c.as_slice-2.ensures.value
    c.in-Ok-collect_all.ensures.listened in
    bare-refused asked _ _ c.new-preface.ensures.bytes out c.in-Err-write.fault (c.in-Err-write.ensures.refused _ hears)
