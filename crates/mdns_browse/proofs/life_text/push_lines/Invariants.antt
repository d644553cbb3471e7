use Rattle.std.proofs.Common.{◌≡◌, ◌++◌, ◌∷◌, [], take}
use Rattle.std.specs.{List.{flat_map}, String.{string_bytes}}
use Rattle.mdns_browse.specs.LifeText.{life_words}
use Rattle.mdns_browse.proofs.life_text.push_lines.Given as goal

-- the lines of the lives so far were appended
abbrev pub invariant-loop-life : goal.invariant-loop-life
invariant-loop-life l =
    string_bytes l.text
    ≡ string_bytes l.initial.text ++ flat_map (λ life. string_bytes l.head ++ life_words l.end_of_captures.nanos life ++ 10 ∷ []) (take l.life-index l.lives)
