use Rattle.std.proofs.Common.{◌≡◌, ◌++◌, drop, map}
use Rattle.std.specs.String.{string_bytes}
use Rattle.mdns_page.specs.{Captures.{each_from}, Lanes.{lane_text}, Timeline.{seconds_lent}}
use Rattle.mdns_page.proofs.lanes.push_each_lane.Given as goal

-- the lanes of the captures before the index were appended
abbrev pub invariant-loop-index : goal.invariant-loop-index
invariant-loop-index l =
    string_bytes l.to ++ each_from (lane_text l.axis l.lanes) l.index (map seconds_lent (drop l.index l.heard))
    ≡ string_bytes l.initial.to ++ each_from (lane_text l.axis l.lanes) 0 (map seconds_lent l.heard)
