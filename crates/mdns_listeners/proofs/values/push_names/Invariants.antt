use Rattle.std.proofs.Common.{◌≡◌, ◌++◌, ◌∷◌, take, string_bytes}
use Rattle.std.specs.List.{flat_map}
use Rattle.dns_name.specs.Name.{name_text}
use Rattle.mdns_listeners.proofs.values.push_names.Given as goal

abbrev pub invariant-loop-name : goal.invariant-loop-name
invariant-loop-name l =
    string_bytes l.to ≡ string_bytes l.fn.to ++ flat_map (λ name. 32 ∷ name_text name) (take l.name-index l.names)
