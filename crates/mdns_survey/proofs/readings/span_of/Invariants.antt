use Rattle.std.proofs.Common.{◌≡◌, take}
use Rattle.mdns_survey.proofs.SpanLemmas.{all_spans}
use Rattle.mdns_survey.proofs.readings.span_of.Given as goal

-- the span of the readings so far
abbrev pub invariant-loop-reading : goal.invariant-loop-reading
invariant-loop-reading l = record { value : l.span ≡ all_spans (take l.reading-index l.readings) }
