use Rattle.std.proofs.Common.{◌≡◌, ◌++◌, map, take}
use Rattle.std.specs.{List.{flat_map}, String.{string_bytes}}
use Rattle.mdns_page.specs.{Picture.{bars}, declared.picture.Stroke.TheVariants.{Server}, Timeline.{lives_lent}}
use Rattle.mdns_page.proofs.picture.push_servers.Given as goal

-- the bars of the servers so far were appended
abbrev pub invariant-loop-server : goal.invariant-loop-server
invariant-loop-server l =
    string_bytes l.to ≡ string_bytes l.initial.to ++ flat_map (bars l.axis l.titled Server) (map lives_lent (take l.server-index l.servers))
