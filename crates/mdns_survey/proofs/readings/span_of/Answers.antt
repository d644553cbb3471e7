use Rattle.std.proofs.{lemmas.Grind.{common_steps}, lemmas.List.{take_more}, Common.{arith}}
use Rattle.mdns_survey.proofs.SpanLemmas.{all_spans, all_spans-more}
use Rattle.mdns_survey.proofs.readings.span_of.Goals as goal

pub loop-reading-preserved : goal.loop-reading-preserved
loop-reading-preserved c = grind (arith, common_steps, all_spans, take_more, all_spans-more)
