use Rattle.std.proofs.Common.{arith, append_assoc, append-nil}
use Rattle.mdns_lives.proofs.message_chronicle.hear_all.Goals as goal

pub loop-hearing-preserved : goal.loop-hearing-preserved
loop-hearing-preserved c = grind (arith, append_assoc)

pub returns : goal.returns
returns c = grind (arith, append-nil)
