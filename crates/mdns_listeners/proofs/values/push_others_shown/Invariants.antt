use Rattle.std.proofs.Common.{◌≡◌, ◌++◌, codes, take, string_bytes}
use Rattle.std.specs.List.{flat_map}
use Rattle.people_text.specs.Shown.{name_shown}
use Rattle.mdns_listeners.proofs.values.push_others_shown.Given as goal

abbrev pub invariant-loop-name : goal.invariant-loop-name
invariant-loop-name l =
    string_bytes l.to ≡ string_bytes l.fn.to ++ flat_map (λ name. codes ", " ++ name_shown name) (take l.name-index l.names)
