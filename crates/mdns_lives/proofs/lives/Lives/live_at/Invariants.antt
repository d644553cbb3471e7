use Rattle.std.proofs.Common.{length}
use Rattle.mdns_lives.specs.{Chronicle.{rows_of}, Since.{live_since_lent}}
use Rattle.mdns_lives.proofs.SinceLemmas.{Tells}
use Rattle.mdns_lives.proofs.lives.Lives.live_at.Given as goal

-- the rows are those of the records before the rest
abbrev pub invariant-loop-rows : goal.invariant-loop-rows
invariant-loop-rows l = Tells live_since_lent l.now.nanos (rows_of l.self) l.walk l.rows.items

abbrev pub decreases-loop-rows : goal.decreases-loop-rows
decreases-loop-rows l = length l.walk
