use Rattle.std.proofs.Common.{◌≡◌, ◌++◌, take}
use Rattle.std.specs.{List.{flat_map}, String.{string_bytes}}
use Rattle.mdns_browse.specs.Csv.{server_csv}
use Rattle.mdns_browse.proofs.instance_forms.push_servers.Given as goal

abbrev pub invariant-loop-server : goal.invariant-loop-server
invariant-loop-server l =
    string_bytes l.to ≡ string_bytes l.initial.to ++ flat_map (server_csv l.name l.kind l.texts) (take l.server-index l.servers)
