use Rattle.std.proofs.Common.{◌≡◌, ◌++◌, drop, map}
use Rattle.std.specs.String.{string_bytes}
use Rattle.mdns_message.specs.Parts.{srv_lent}
use Rattle.mdns_browse.specs.{Json.{parted}, ServiceLifeText.{server_object}}
use Rattle.mdns_browse.proofs.service_life_text.push_objects.Given as goal

abbrev pub invariant-loop-server : goal.invariant-loop-server
invariant-loop-server l =
    string_bytes l.to.text ++ parted l.to.first (map server_object (map srv_lent (drop l.server-index l.servers)))
    ≡ string_bytes l.initial.to.text ++ parted l.initial.to.first (map server_object (map srv_lent l.servers))
