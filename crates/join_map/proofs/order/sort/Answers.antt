use Rattle.std.proofs.{Common.{subst}, lemmas.List.Sorted.{IsPermutation-map, IsPermutation-trans}}
use Rattle.std.specs.List.Sorted.{IsPermutation}
use Rattle.join_map.specs.Blocks.{places_of}
use Rattle.join_map.proofs.order.sort.Goals as goal

pub returns : goal.returns
returns g c =
    let noted = c.note_prefixes-alike.new.order in
    let sorted = c.sort_by_prefixes.new.order in
    let last = c.sort_ties.new.order in
    subst (λ ps. IsPermutation ps (places_of last)) c.note_prefixes-alike.ensures
    (IsPermutation-trans (places_of noted) (places_of sorted) (places_of last)
    (IsPermutation-map (λ ranked. ranked.place) noted sorted c.sort_by_prefixes.ensures) c.sort_ties.ensures)
