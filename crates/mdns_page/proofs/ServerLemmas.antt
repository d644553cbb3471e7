-- SRV records of a name among rows in key order.
use Rattle.std.proofs.{Common.{◌≡◌, refl, sym, ◌∙◌, ap, Bool, List, [], ◌∷◌, map, arith}, lemmas.Simd.{map-map}}
use Rattle.std.specs.{List.{filter}, List.Sorted.{IsStrictlySortedBy}}
use Rattle.mdns_message.specs.Resource.{key_cmp}
use Rattle.mdns_join.specs.declared.latest.Latest.{Latest}
use Rattle.mdns_cache.specs.Live.{key_of_last}
use Rattle.mdns_lives.specs.{LentLives.{row_lent}, declared.life.Life.{Life}, declared.lives.RecordLives.{RecordLives}}
use Rattle.mdns_page.specs.Timeline.{lives_lent}

-- what passes after a function is applied
filter-map : {X Y : Type 0} (p : Y → Bool) (f : X → Y) (xs : List X) → filter p (map f xs) ≡ map f (filter (λ x. p (f x)) xs)
filter-map p f [] = refl
filter-map {X = X} p f (x ∷ xs) = grind (arith, filter-map p f xs)

-- rows that are lent are in key order by their last hearings
pub ascending-lent : {R : Type 0} (lent : R → Latest × List Life) (rows : List R)
    → IsStrictlySortedBy key_cmp (map (λ (row : Latest × List Life). key_of_last row.0) (map lent rows))
    → IsStrictlySortedBy key_cmp (map (λ r. key_of_last (lent r).0) rows)
ascending-lent lent rows sorted = grind (arith, map-map)

-- the lives of rows that are lent
pub lives-lent : (rows : List RecordLives) → map lives_lent rows ≡ map (λ (row : Latest × List Life). row.1) (map row_lent rows)
lives-lent rows = sym (map-map (λ (row : Latest × List Life). row.1) row_lent rows)

-- of rows that are lent those that pass
pub passing-lent : {R : Type 0} (lent : R → Latest × List Life) (rows found : List R) (passes : Latest × List Life → Bool)
    → filter (λ r. passes (lent r)) rows ≡ found → map lent found ≡ filter passes (map lent rows)
passing-lent lent rows found passes is = ap (map lent) (sym is) ∙ sym (filter-map passes lent rows)

-- WHAT FUNCTIONS ARE PROVED BY

pub ruleset for_servers_of = (lives-lent)
