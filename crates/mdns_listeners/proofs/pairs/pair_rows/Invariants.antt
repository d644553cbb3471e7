use Rattle.std.proofs.Common.{◌≡◌, ◌++◌, drop}
use Rattle.std.specs.List.{enumerate_from}
use Rattle.mdns_listeners.specs.Pairs.{pair_rows, pair_rows_of}
use Rattle.mdns_listeners.proofs.pairs.pair_rows.Given as goal

-- the rows of the listeners before the one were appended
abbrev pub invariant-loop-one : goal.invariant-loop-one
invariant-loop-one l =
    l.all.items ++ pair_rows_of l.rows (enumerate_from l.one (drop l.one l.spans)) ≡ pair_rows l.rows l.spans
