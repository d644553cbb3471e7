use Rattle.std.proofs.Common.{◌≡◌, ◌++◌, ◌∷◌, codes, map, take}
use Rattle.std.specs.{List.{flat_map}, String.{string_bytes}}
use Rattle.mdns_message.specs.Parts.{srv_lent}
use Rattle.std.specs.Fmt.{decimal}
use Rattle.dns_name.specs.Name.{name_text}
use Rattle.mdns_browse.proofs.service_life_text.push_servers.Given as goal

abbrev pub invariant-loop-server : goal.invariant-loop-server
invariant-loop-server l =
    string_bytes l.to ≡ string_bytes l.initial.to
    ++ flat_map (λ server. codes " server " ++ name_text server.target ++ 32 ∷ decimal server.port)
    (map srv_lent (take l.server-index l.servers))
