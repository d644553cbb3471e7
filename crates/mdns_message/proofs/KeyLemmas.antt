-- Where two comparisons together tell that two keys are equal, each does; and resources that compare equal are equal.
use Rattle.std.proofs.Common.{arith, ◌≡◌, ◌↔◌, IsTrue, Bool, true, false, ◌&&◌, refl, ap, ◌∙◌}
use Rattle.std.specs.Ordering.{is_eq}
use Rattle.mdns_message.specs.{declared.resource.Resource.{Resource}, Resource.{resource_cmp}}
use Rattle.mdns_message.specs.laws.Resource.{resource_cmp-exact, resource_cmp-total}

pub both_true : (x y : Bool) → (x && y) ≡ true → (x ≡ true) × (y ≡ true)
both_true true true e = (refl, refl)
both_true true false e = cc
both_true false y e = cc

pub true_both : (x y : Bool) → x ≡ true → y ≡ true → (x && y) ≡ true
true_both x y e f = ap (λ v. v && y) e ∙ f

-- resources that compare equal are one value, and only those
pub resources_same : (a b : Resource) → IsTrue (is_eq (resource_cmp a b)) ↔ (a ≡ b)
resources_same a b = grind (arith, resource_cmp-exact, resource_cmp-total)
