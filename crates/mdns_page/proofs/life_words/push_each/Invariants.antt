use Rattle.std.proofs.Common.{◌≡◌, ◌++◌, take}
use Rattle.std.specs.{List.{flat_map}, String.{string_bytes}}
use Rattle.mdns_page.specs.LifeWords.{life_words}
use Rattle.mdns_page.proofs.life_words.push_each.Given as goal

-- the words of the lives so far were appended
abbrev pub invariant-loop-life : goal.invariant-loop-life
invariant-loop-life l = string_bytes l.to ≡ string_bytes l.initial.to ++ flat_map (life_words l.axis) (take l.life-index l.lives)
