use Rattle.std.proofs.Common.{◌≡◌, ◌++◌, drop, map}
use Rattle.std.specs.String.{string_bytes}
use Rattle.mdns_page.specs.{Captures.{each_from}, HeardWords.{capture_times}, Timeline.{seconds_lent}}
use Rattle.mdns_page.proofs.heard_words.push_each.Given as goal

-- the words of the captures before the index were appended
abbrev pub invariant-loop-index : goal.invariant-loop-index
invariant-loop-index l =
    string_bytes l.to ++ each_from capture_times l.index (map seconds_lent (drop l.index l.heard))
    ≡ string_bytes l.initial.to ++ each_from capture_times 0 (map seconds_lent l.heard)
