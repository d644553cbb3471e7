use Rattle.std.proofs.Common.{◌≡◌, ◌+◌, List, ◌++◌, drop, get_or, length, map}
use Rattle.std.specs.List.{enumerate_from, range_with_len}
use Rattle.mdns_listeners.specs.{HeardMessage.{HeardRow}, Marks.{marks_by, seen_by}, Numbers.{FileSpans}, Pairs.{pair_rows_with}}
use Rattle.mdns_listeners.proofs.pairs.push_pairs.Given as goal

-- the rows with the listeners before the other were appended
abbrev pub invariant-loop-other : goal.invariant-loop-other
invariant-loop-other l = (rows : List HeardRow) → l.seen ≡ map (seen_by l.one) rows
    → l.marks ≡ map (marks_by rows) (range_with_len 0 (length l.spans)) → (d : FileSpans)
    → l.all.items ++ pair_rows_with rows (l.one, get_or l.spans l.one d) (enumerate_from l.other (drop l.other l.spans))
    ≡ l.initial.all.items
    ++ pair_rows_with rows (l.one, get_or l.spans l.one d) (enumerate_from (l.one + 1) (drop (l.one + 1) l.spans))
