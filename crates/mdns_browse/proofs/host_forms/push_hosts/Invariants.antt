use Rattle.std.proofs.Common.{◌≡◌, ◌++◌, map, take}
use Rattle.std.specs.{List.{flat_map}, String.{string_bytes}}
use Rattle.mdns_browse.specs.{Forms.{host_text}, Hosts.{host_lent}}
use Rattle.mdns_browse.proofs.host_forms.push_hosts.Given as goal

abbrev pub invariant-loop-host : goal.invariant-loop-host
invariant-loop-host l =
    string_bytes l.to.text ≡ string_bytes l.initial.to.text ++ flat_map (host_text l.form) (map host_lent (take l.host-index l.hosts))
