use Rattle.std.proofs.Common.{◌≡◌, ◌++◌, take}
use Rattle.std.specs.{List.{flat_map}, String.{string_bytes}}
use Rattle.mdns_browse.specs.LifeText.{life_columns}
use Rattle.mdns_browse.proofs.life_columns.push_rows.Given as goal

-- the rows of the lives so far were appended
abbrev pub invariant-loop-life : goal.invariant-loop-life
invariant-loop-life l =
    string_bytes l.text
    ≡ string_bytes l.initial.text ++ flat_map (λ life. life_columns l.width l.end_of_captures.nanos life ++ string_bytes l.tail) (take l.life-index l.lives)
