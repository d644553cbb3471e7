-- Comparisons one after another.
use Rattle.std.proofs.Common.{◌≡◌, ap, refl, nat_cmp}
use Rattle.std.specs.declared.cmp.{Ordering.{Ordering}, Ordering.TheVariants.{Less, Equal, Greater}}
use Rattle.std.specs.Ordering.{is_lt, ordering_then}
use Rattle.mdns_message.specs.laws.Resource.{resource_cmp-total}

then_equal : (o p : Ordering) → p ≡ Equal → is_lt (ordering_then o p) ≡ is_lt o
then_equal Less p e = refl
then_equal Equal p e = ap is_lt e
then_equal Greater p e = refl

-- a third comparison that comes to `Equal` changes nothing
pub then_tied : (o p q : Ordering) → q ≡ Equal → is_lt (ordering_then o (ordering_then p q)) ≡ is_lt (ordering_then o p)
then_tied Less p q e = refl
then_tied Equal p q e = then_equal p q e
then_tied Greater p q e = refl

pub ruleset for_is_older = (then_tied, nat_cmp, resource_cmp-total)
