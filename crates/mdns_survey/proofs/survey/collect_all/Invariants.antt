use Rattle.std.proofs.Common.{◌≡◌, ◌++◌, map, length}
use Rattle.std.specs.List.{All}
use Rattle.mdns_survey.specs.Surveys.{Listened}
use Rattle.mdns_survey.proofs.SurveyLemmas.{IsSound}
use Rattle.mdns_survey.proofs.survey.collect_all.Given as goal

-- the readers so far were listened to
abbrev pub invariant-loop-reader : goal.invariant-loop-reader
invariant-loop-reader g l = record {
  listened : Listened g.L.Collector.HeardAll (map g.R.Source.remaining l.yielded) l.initial.collector l.collector l.readings.items;
  counted : length l.readings.items ≡ length l.yielded;
  sound : All IsSound (map g.R.Source.remaining l.yielded);
  left : l.fn.readers.items ≡ l.yielded ++ l.reader-iterator.rest.items;
}
