use Rattle.std.proofs.Common.{◌≡◌, ◌-◌, IsTrue, IfSome, None}
use Rattle.mdns_capture.specs.{declared.savefile.Ending.TheVariants.{Going}, Savefile.{header_fault}}
use Rattle.mdns_survey.specs.Reading.{ReadSoFar}
use Rattle.mdns_survey.proofs.reading.read_capture.Given as goal

abbrev pub invariant-loop-packet : goal.invariant-loop-packet
invariant-loop-packet g l = record {
  so_far : ReadSoFar g.C.Consumer.Took (g.R.Source.remaining l.fn.reader) l.capture l.initial.consumer l.consumer l.tally
      l.lost l.skips l.span;
  sound : IfSome (g.R.Source.remaining l.fn.reader) (λ bytes. header_fault bytes ≡ None);
  steady : IsTrue (g.R.Source.steady l.fn.reader) → IsTrue l.capture.steady;
  going : l.capture.ending ≡ Going;
}

abbrev pub decreases-loop-packet : goal.decreases-loop-packet
decreases-loop-packet g l = 4294967295 - l.capture.count
