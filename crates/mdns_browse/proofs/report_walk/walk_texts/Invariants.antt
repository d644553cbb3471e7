use Rattle.std.proofs.Common.{drop, map}
use Rattle.mdns_cache.specs.LentRecords.{last_lent}
use Rattle.mdns_browse.specs.{Services.{texts_of}, Sheet.{instance_text}}
use Rattle.mdns_browse.proofs.ReachLemmas.{Reaches}
use Rattle.mdns_browse.proofs.report_walk.walk_texts.Given as goal

abbrev pub invariant-loop-row : goal.invariant-loop-row
invariant-loop-row g l =
    Reaches g.S.Sheet.takes l.initial.sheet (map instance_text (texts_of (map last_lent l.row-items))) l.sheet
    (map instance_text (texts_of (map last_lent (drop l.row-index l.row-items))))
