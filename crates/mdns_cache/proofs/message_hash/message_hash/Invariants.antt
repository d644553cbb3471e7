use Rattle.std.proofs.Common.{◌-◌}
use Rattle.mdns_cache.proofs.message_hash.message_hash.Given as goal

abbrev pub decreases-loop-at : goal.decreases-loop-at
decreases-loop-at l = l.last - l.at
