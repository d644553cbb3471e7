use Rattle.std.proofs.Common.{◌≡◌, ◌++◌, ◌∷◌, map, take}
use Rattle.std.specs.{List.{flat_map}, String.{string_bytes}}
use Rattle.mdns_browse.specs.Csv.{csv_field, field_lent}
use Rattle.mdns_browse.proofs.csv.push_csv_line.Given as goal

abbrev pub invariant-loop-other : goal.invariant-loop-other
invariant-loop-other l =
    string_bytes l.to ≡ string_bytes l.initial.to ++ flat_map (λ next. 44 ∷ csv_field next) (map field_lent (take l.other-index l.others))
