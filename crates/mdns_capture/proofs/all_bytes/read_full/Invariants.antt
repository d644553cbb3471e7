use Rattle.std.proofs.Common.{◌-◌, ◌≤◌, length, take, true}
use Rattle.std.specs.Io.KnownBytes.{Consumes}
use Rattle.mdns_capture.specs.Calls.{ReadsWell}
use Rattle.mdns_capture.proofs.all_bytes.read_full.Given as goal

-- the bytes so far are at the front
abbrev pub invariant-loop-at : goal.invariant-loop-at
invariant-loop-at g l = record {
  within : l.at ≤ length l.to;
  bytes : Consumes (g.R.Source.remaining l.fn.reader) (g.R.Source.remaining l.reader) (take l.at l.to);
  well : ReadsWell g.R.Source l.fn.reader l.reader true;
}

abbrev pub decreases-loop-at : goal.decreases-loop-at
decreases-loop-at g l = length l.to - l.at
