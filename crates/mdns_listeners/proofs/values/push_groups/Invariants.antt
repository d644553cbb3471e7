use Rattle.std.proofs.Common.{◌≡◌, ◌++◌, ◌∷◌, false, take, string_bytes}
use Rattle.std.specs.{Fmt.{digits}, List.{flat_map}}
use Rattle.mdns_listeners.proofs.values.push_groups.Given as goal

abbrev pub invariant-loop-other : goal.invariant-loop-other
invariant-loop-other l =
    string_bytes l.to ≡ string_bytes l.initial.to ++ flat_map (λ next. 58 ∷ digits 16 false next) (take l.other-index l.others)
