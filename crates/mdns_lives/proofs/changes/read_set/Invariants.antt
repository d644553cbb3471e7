use Rattle.std.proofs.Common.{◌∷◌, [], length, map}
use Rattle.mdns_lives.specs.LentLives.{row_lent}
use Rattle.mdns_lives.proofs.ChosenLemmas.{ReadSo}
use Rattle.mdns_lives.proofs.changes.read_set.Given as goal

abbrev pub invariant-loop-record : goal.invariant-loop-record
invariant-loop-record l = ReadSo l.fn.window (l.fn.first ∷ []) (l.fn.second ∷ l.fn.rows) (map row_lent l.set.items) l.rows

abbrev pub decreases-loop-record : goal.decreases-loop-record
decreases-loop-record l = length l.rows
