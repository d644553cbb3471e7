use Rattle.std.proofs.Common.{arith, append_assoc}
use Rattle.mdns_lives.proofs.message_chronicle.hear_all_at_each.Goals as goal

pub loop-hearing-init : goal.loop-hearing-init
loop-hearing-init c = grind arith

pub loop-hearing-preserved : goal.loop-hearing-preserved
loop-hearing-preserved c = grind (arith, append_assoc)
