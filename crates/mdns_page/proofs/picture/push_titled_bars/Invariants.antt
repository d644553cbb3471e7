use Rattle.std.proofs.Common.{◌≡◌, ◌++◌, take}
use Rattle.std.specs.{List.{flat_map}, String.{string_bytes}}
use Rattle.mdns_page.specs.Picture.{titled_bar}
use Rattle.mdns_page.proofs.picture.push_titled_bars.Given as goal

-- the bars of the lives so far were appended
abbrev pub invariant-loop-life : goal.invariant-loop-life
invariant-loop-life l = string_bytes l.to ≡ string_bytes l.initial.to ++ flat_map (titled_bar l.axis l.stroke) (take l.life-index l.lives)
