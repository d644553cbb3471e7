use Rattle.std.proofs.Common.{rules}
use Rattle.mdns_capture.proofs.FillLemmas.{Consumes-filled}
use Rattle.mdns_trace.proofs.peeked.read_head.Goals as goal

pub loop-at-preserved : goal.loop-at-preserved
loop-at-preserved g c = record {
  within = search rules;
  bytes = Consumes-filled _ _ _ _ _ _ _ _ c.loop-at.invariant.within c.in_ok-count.ensures.bound.0
      c.loop-at.invariant.bytes c.in_ok-count.ensures.bytes.0;
  well = search rules;
}
