-- Flush moments are joined by laws.
use Rattle.std.specs.Prelude.{◌≡◌, ℕ, Bool, true, false, ◌||◌, List, refl}
use Rattle.std.proofs.Common.{sym, ap, ◌∙◌}
use Rattle.join_map.specs.Join.{JoinLaws}
use Rattle.mdns_join.specs.{Kept.{has, union, IsAscending}, laws.Kept.{has-union, IsAscending-union, same_ascending, union_comm}}

pub same_moments : (xs ys : List ℕ) → IsAscending xs → IsAscending ys → ((q : ℕ) → has xs q ≡ has ys q) → xs ≡ ys
same_moments xs ys a b same = same_ascending xs ys a b (λ q h. sym (same q) ∙ h) (λ q h. same q ∙ h)

or_same : (b : Bool) → (b || b) ≡ b
or_same true = refl
or_same false = refl

or_three : (a b c : Bool) → ((a || b) || c) ≡ (a || (b || c))
or_three true b c = refl
or_three false b c = refl

pub union-laws : JoinLaws IsAscending union
union-laws = record {
  idempotent = λ xs u. same_moments (union xs xs) xs (IsAscending-union xs xs) u (λ q. has-union xs xs q ∙ or_same (has xs q));
  commutative = λ xs ys u v. union_comm xs ys;
  associative = λ xs ys zs u v w. same_moments (union (union xs ys) zs) (union xs (union ys zs))
      (IsAscending-union (union xs ys) zs) (IsAscending-union xs (union ys zs))
      (λ q. has-union (union xs ys) zs q ∙ ap (λ b. b || has zs q) (has-union xs ys q)
      ∙ or_three (has xs q) (has ys q) (has zs q)
      ∙ ap (λ b. has xs q || b) (sym (has-union ys zs q)) ∙ sym (has-union xs (union ys zs) q));
  keeps = λ xs ys u v. IsAscending-union xs ys;
}
