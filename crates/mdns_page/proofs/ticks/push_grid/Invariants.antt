use Rattle.std.proofs.Common.{◌≡◌, ◌++◌, take, string_bytes}
use Rattle.std.specs.List.{flat_map}
use Rattle.mdns_page.specs.Ticks.{tick_line}
use Rattle.mdns_page.proofs.ticks.push_grid.Given as goal

abbrev pub invariant-loop-tick : goal.invariant-loop-tick
invariant-loop-tick l = string_bytes l.to ≡ string_bytes l.fn.to ++ flat_map (tick_line l.axis l.high) (take l.tick-index l.ticks)
