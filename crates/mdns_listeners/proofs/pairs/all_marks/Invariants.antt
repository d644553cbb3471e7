use Rattle.std.proofs.Common.{◌≡◌, map}
use Rattle.std.specs.List.{range_with_len}
use Rattle.mdns_listeners.specs.Marks.{marks_by}
use Rattle.mdns_listeners.proofs.pairs.all_marks.Given as goal

abbrev pub invariant-loop-listener : goal.invariant-loop-listener
invariant-loop-listener l = l.all.items ≡ map (marks_by l.rows) (range_with_len 0 l.listener)
