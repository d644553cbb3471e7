use Rattle.std.proofs.Common.{◌≡◌, ◌++◌, take, map, string_bytes}
use Rattle.std.specs.List.{flat_map}
use Rattle.mdns_listeners.specs.Warnings.{line_of_warned}
use Rattle.mdns_listeners.proofs.warnings.push_lines.Given as goal

abbrev pub invariant-loop-pair : goal.invariant-loop-pair
invariant-loop-pair l =
    string_bytes l.to ≡ string_bytes l.fn.to ++ flat_map (line_of_warned (map string_bytes l.listener_names)) (take l.pair-index l.pairs)
