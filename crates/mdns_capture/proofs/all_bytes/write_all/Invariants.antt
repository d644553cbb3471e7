use Rattle.std.proofs.Common.{length, ◌≡◌, true, List, ℕ, ◌++◌}
use Rattle.std.specs.Io.KnownBytes.{Appends}
use Rattle.mdns_capture.specs.Calls.{WritesWell}
use Rattle.mdns_capture.proofs.all_bytes.write_all.Given as goal

-- what went out so far is a prefix of the bytes, and what is left is the rest
abbrev pub invariant-loop-rest : goal.invariant-loop-rest
invariant-loop-rest g l = record {
  moved : (done : List ℕ) × (l.initial.rest ≡ done ++ l.rest) × Appends (g.W.Sink.written l.initial.out) (g.W.Sink.written l.out) done;
  well : WritesWell g.W.Sink l.initial.out l.out true;
}

abbrev pub decreases-loop-rest : goal.decreases-loop-rest
decreases-loop-rest g l = length l.rest
