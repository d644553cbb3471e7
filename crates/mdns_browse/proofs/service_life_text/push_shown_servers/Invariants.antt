use Rattle.std.proofs.Common.{◌≡◌, ◌++◌, ◌∷◌, List, ℕ, map, take}
use Rattle.std.specs.{List.{flat_map}, String.{string_bytes}}
use Rattle.mdns_message.specs.Parts.{srv_lent}
use Rattle.mdns_message.specs.declared.parts.SrvData.{SrvData}
use Rattle.mdns_browse.specs.{RecordShown.{shown_priority, spaced_wide}, ServiceLifeText.{server_words}}
use Rattle.mdns_browse.proofs.service_life_text.push_shown_servers.Given as goal

abbrev pub invariant-loop-server : goal.invariant-loop-server
invariant-loop-server l =
    string_bytes l.to ≡ string_bytes l.initial.to
    ++ flat_map (λ (one : SrvData (List ℕ)). spaced_wide (server_words one ∷ shown_priority one.priority one.weight))
    (map srv_lent (take l.server-index l.servers))
