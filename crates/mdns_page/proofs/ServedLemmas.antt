-- Servers of the lives of an instance.
use Rattle.std.proofs.Common.{◌≡◌, refl, ℕ, suc, List, [], ◌∷◌, arith}
use Rattle.std.proofs.lemmas.{Bool.Decides.{nat_tests}, Grind.{common_steps}, List.Elements.{filter-append, filter_map-append}}
use Rattle.std.specs.List.{All, filter, list_any}
use Rattle.mdns_join.specs.declared.latest.Latest.{Latest}
use Rattle.mdns_lives.specs.declared.life.Life.{Life}
use Rattle.mdns_page.specs.ServiceLives.{IsWithin, lives_meet, lives_named, meets_span, servers_in}

-- what meets a life meets each span that the life is within
pub met-kept : (span : ℕ × ℕ) (life : Life) (xs : List Life) → IsWithin span life
    → list_any (lives_meet life) (filter (meets_span span) xs) ≡ list_any (lives_meet life) xs
met-kept span life [] in_it = refl
met-kept span life (x ∷ xs) in_it = grind (arith, nat_tests, met-kept span life xs in_it)

-- what a record more needs
pub ruleset one_more = (common_steps, filter-append, filter_map-append, met-kept)

pub same-named : (last : Latest) (name : List ℕ) (rows near : List (Latest × List Life)) (xs : List Life)
    → All (λ x. servers_in near x ≡ servers_in rows x) xs → lives_named last name near xs ≡ lives_named last name rows xs
same-named last name rows near [] all = refl
same-named last name rows near (x ∷ xs) all =
    grind (arith, all 0 x (omega arith), same-named last name rows near xs (λ k d within. all (suc k) d (omega arith)))
