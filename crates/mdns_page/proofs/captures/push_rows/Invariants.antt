use Rattle.std.proofs.Common.{◌≡◌, ◌++◌, drop, map}
use Rattle.std.specs.String.{string_bytes}
use Rattle.mdns_page.specs.{Captures.{capture_text, comparison_lent, each_from, facts_lent}, Html.{isolated}}
use Rattle.mdns_page.proofs.captures.push_rows.Given as goal

-- the rows of the captures before the index were appended
abbrev pub invariant-loop-index : goal.invariant-loop-index
invariant-loop-index l =
    let row = capture_text isolated l.axis (map facts_lent l.captures) (comparison_lent l.comparison) in
    string_bytes l.to ++ each_from row l.index (map facts_lent (drop l.index l.captures))
    ≡ string_bytes l.initial.to ++ each_from row 0 (map facts_lent l.captures)
