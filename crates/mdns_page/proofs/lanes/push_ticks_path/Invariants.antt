use Rattle.std.proofs.Common.{◌≡◌, ◌++◌, drop, None}
use Rattle.std.specs.{List.{filter_map}, String.{string_bytes}}
use Rattle.mdns_page.specs.{Lanes.{second_mark}, Picture.{path_rest}}
use Rattle.mdns_page.proofs.lanes.push_ticks_path.Given as goal

-- what was written of the path, with the rest of it, is the path
abbrev pub invariant-loop-second : goal.invariant-loop-second
invariant-loop-second l =
    string_bytes l.to ++ path_rest l.stroke l.before (filter_map (second_mark l.axis l.stroke) (drop l.second-index l.seconds))
    ≡ string_bytes l.fn.to ++ path_rest l.stroke None (filter_map (second_mark l.axis l.stroke) l.seconds)
