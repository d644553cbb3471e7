use Rattle.std.proofs.Common.{◌≡◌, ◌++◌, map, take}
use Rattle.std.specs.{List.{flat_map}, String.{string_bytes}}
use Rattle.mdns_browse.specs.Forms.{type_text}
use Rattle.mdns_browse.proofs.type_forms.push_types.Given as goal

abbrev pub invariant-loop-name : goal.invariant-loop-name
invariant-loop-name l =
    string_bytes l.to.text ≡ string_bytes l.initial.to.text ++ flat_map (type_text l.form) (map (λ name. name.now) (take l.name-index l.names))
