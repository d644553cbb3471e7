use Rattle.std.proofs.{Common.{arith, append_assoc}}
use Rattle.mdns_cache.proofs.GatheringLemmas.{valid_pushed}
use Rattle.mdns_lives.proofs.chronicle.moments_of.Goals as goal

pub loop-set-preserved : goal.loop-set-preserved
loop-set-preserved c = grind (arith, append_assoc, valid_pushed)
