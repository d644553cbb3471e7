use Rattle.std.proofs.Common.{◌≡◌, ◌++◌, map, take}
use Rattle.std.specs.{List.{flat_map}, String.{string_bytes}}
use Rattle.mdns_page.specs.{Captures.{facts_lent}, Html.{isolated}, Lead.{pair_warning}}
use Rattle.mdns_page.proofs.lead.push_pair_warnings.Given as goal

-- the warnings of the pairs so far were appended
abbrev pub invariant-loop-pair : goal.invariant-loop-pair
invariant-loop-pair l =
    string_bytes l.to
    ≡ string_bytes l.initial.to ++ flat_map (pair_warning isolated (map facts_lent l.captures)) (take l.pair-index l.pairs)
