use Rattle.std.proofs.Common.{◌≡◌, ◌++◌, drop, map}
use Rattle.std.specs.String.{string_bytes}
use Rattle.mdns_page.specs.{Captures.{each_from, facts_lent}, Lanes.{base_text}}
use Rattle.mdns_page.proofs.lanes.push_each_base.Given as goal

-- the lines of the captures before the index were appended
abbrev pub invariant-loop-index : goal.invariant-loop-index
invariant-loop-index l =
    string_bytes l.to ++ each_from (base_text l.axis l.lanes) l.index (map facts_lent (drop l.index l.captures))
    ≡ string_bytes l.initial.to ++ each_from (base_text l.axis l.lanes) 0 (map facts_lent l.captures)
