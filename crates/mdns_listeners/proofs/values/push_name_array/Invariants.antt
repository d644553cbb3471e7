use Rattle.std.proofs.Common.{◌≡◌, ◌++◌, drop, map, true, string_bytes}
use Rattle.dns_name.specs.Name.{name_text}
use Rattle.mdns_browse.specs.Json.{json_string, parted}
use Rattle.mdns_listeners.proofs.values.push_name_array.Given as goal

-- the names that were appended, and those that are left
abbrev pub invariant-loop-name : goal.invariant-loop-name
invariant-loop-name l =
    string_bytes l.to ++ parted l.first (map (λ name. json_string (name_text name)) (drop l.name-index l.names))
    ≡ string_bytes l.initial.to ++ parted true (map (λ name. json_string (name_text name)) l.names)
