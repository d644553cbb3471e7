use Rattle.std.proofs.Common.{rules, ◌≡◌, ◌∙◌, refl, ap}
use Rattle.std.specs.{Char.{to_ascii_lowercase}, Iterator.Adapters.{map_callee}, Ordering.{nat_cmp}}
use Rattle.std.proofs.lemmas.{Iterator.{YieldsList-from_slice, YieldsList-from_map}, Iterator.Search.{cmp_from_yields_List}}
use Rattle.dns_name.proofs.fold.folded_cmp.Goals as goal

pub returns : goal.returns
returns c =
    cmp_from_yields_List (λ x y. y ≡ x) _ nat_cmp _ c.cmp.ensures.ran
    (YieldsList-from_map _ to_ascii_lowercase (YieldsList-from_slice c.args.name.now cc) c.map.ensures.closure
    (λ x r q k. search rules))
    (λ it e. YieldsList-from_map _ to_ascii_lowercase (YieldsList-from_slice c.args.other.now cc)
    (ap map_callee e ∙ c.map-others.ensures.closure) (λ x r q k. search rules)) (λ x y. refl)
