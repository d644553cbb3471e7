use Rattle.std.proofs.Common.{◌≡◌, ◌++◌, ◌∷◌, [], map, take}
use Rattle.std.specs.{List.{flat_map}, String.{string_bytes}}
use Rattle.mdns_message.specs.Parts.{srv_lent}
use Rattle.mdns_browse.specs.{RecordShown.{spaced_by}, ServiceLifeText.{server_words}}
use Rattle.mdns_browse.proofs.service_life_text.push_targets.Given as goal

abbrev pub invariant-loop-server : goal.invariant-loop-server
invariant-loop-server l =
    string_bytes l.to ≡ string_bytes l.initial.to
    ++ spaced_by (32 ∷ []) (map server_words (map srv_lent (take l.server-index l.servers)))
