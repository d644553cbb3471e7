-- What follows from the laws of a join, and that taking the greater of two values is one.
use Rattle.std.specs.{Prelude.{◌≡◌, false, refl}, declared.cmp.Ordering.{Ordering}, declared.cmp.Ordering.TheVariants.{Less, Equal}}
use Rattle.std.specs.{declared.cmp.Ordering.TheVariants.{Greater}, Ordering.{match_ordering, ordering_reverse, is_gt}, Cmp.{IsTotalOrder}}
use Rattle.std.proofs.{lemmas.Cmp.{upto}, Common.{sym, ap, ◌∙◌, true≢false}}
use Rattle.join_map.specs.Join.{JoinLaws, IsAtMost, IsPartOfJoin, greater_of}

module _ {A : Type 0} {Valid : A → Type 0} {join : A → A → A} (laws : JoinLaws Valid join) where
  -- a value is at most itself
  pub IsAtMost-refl : (a : A) → Valid a → IsAtMost join a a
  IsAtMost-refl a v = laws.idempotent a v

  pub IsAtMost-trans : (a b c : A) → Valid a → Valid b → Valid c → IsAtMost join a b → IsAtMost join b c → IsAtMost join a c
  IsAtMost-trans a b c u v w p q = ap (join a) (sym q) ∙ sym (laws.associative a b c u v w) ∙ ap (λ x. join x c) p ∙ q

  -- each side is at most the join
  pub IsAtMost-left : (a b : A) → Valid a → Valid b → IsAtMost join a (join a b)
  IsAtMost-left a b u v = sym (laws.associative a a b u u v) ∙ ap (λ x. join x b) (laws.idempotent a u)

  pub IsAtMost-right : (a b : A) → Valid a → Valid b → IsAtMost join b (join a b)
  IsAtMost-right a b u v = ap (join b) (laws.commutative a b u v) ∙ IsAtMost-left b a v u ∙ laws.commutative b a v u

  -- the join is the least value that both sides are at most
  pub IsAtMost-least : (a b c : A) → Valid a → Valid b → Valid c → IsAtMost join a c → IsAtMost join b c → IsAtMost join (join a b) c
  IsAtMost-least a b c u v w p q = laws.associative a b c u v w ∙ ap (join a) q ∙ p

  -- the old value and the join lie between the two
  pub IsPartOfJoin-old : (old other : A) → Valid old → Valid other → IsPartOfJoin join old other old
  IsPartOfJoin-old old other u v = record { from_old = IsAtMost-refl old u; to_join = IsAtMost-left old other u v }

  pub IsPartOfJoin-join : (old other : A) → Valid old → Valid other → IsPartOfJoin join old other (join old other)
  IsPartOfJoin-join old other u v = record {
    from_old = IsAtMost-left old other u v;
    to_join = IsAtMost-refl (join old other) (laws.keeps old other u v);
  }

  -- a value in between, joined with the other value, gives the same join
  pub join-again : (old other value : A) → Valid old → Valid other → Valid value → IsPartOfJoin join old other value
      → join value other ≡ join old other
  join-again old other value u v w part =
      ap (λ x. join x other) (sym part.from_old ∙ laws.commutative old value u w) ∙ laws.associative value old other w u v ∙ part.to_join

-- ---- the greater of two values, by a total order in which only equal values compare equal

greater_itself : {A : Type 0} (a : A) (o : Ordering) → match_ordering o a a a ≡ a
greater_itself a Less = refl
greater_itself a Equal = refl
greater_itself a Greater = refl

module _ {A : Type 0} {cmp : A → A → Ordering} (order : IsTotalOrder cmp) (exact : (a b : A) → cmp a b ≡ Equal → a ≡ b) where
  greater_comm : (a b : A) (o : Ordering) → cmp a b ≡ o → greater_of cmp a b ≡ greater_of cmp b a
  greater_comm a b Less e = ap (λ o. match_ordering o b a a) e
      ∙ sym (ap (λ o. match_ordering o a b b) (order.antisymm b a ∙ ap ordering_reverse e))
  greater_comm a b Equal e =
      ap (λ o. match_ordering o b a a) e ∙ exact a b e ∙ sym (ap (λ o. match_ordering o a b b) (order.antisymm b a ∙ ap ordering_reverse e))
  greater_comm a b Greater e = ap (λ o. match_ordering o b a a) e
      ∙ sym (ap (λ o. match_ordering o a b b) (order.antisymm b a ∙ ap ordering_reverse e))

  -- a isn't below c
  kept_first : (a c : A) (o : Ordering) → cmp a c ≡ o → is_gt (cmp c a) ≡ false → match_ordering o c a a ≡ a
  kept_first a c Less e h = absurd (true≢false (sym (ap is_gt (order.antisymm c a ∙ ap ordering_reverse e)) ∙ h))
  kept_first a c Equal e h = refl
  kept_first a c Greater e h = refl

  not_below : (a b : A) (o : Ordering) → cmp a b ≡ o → is_gt (ordering_reverse o) ≡ false → is_gt (cmp b a) ≡ false
  not_below a b o e h = ap is_gt (order.antisymm b a ∙ ap ordering_reverse e) ∙ h

  greater_three : (a b c : A) (o p : Ordering) → cmp a b ≡ o → cmp b c ≡ p
      → greater_of cmp (match_ordering o b a a) c ≡ greater_of cmp a (match_ordering p c b b)
  greater_three a b c Less Less e f = ap (λ o. match_ordering o c b b) f ∙ sym (ap (λ o. match_ordering o c a a) (order.trans a b c e f))
  greater_three a b c Less Equal e f = ap (λ o. match_ordering o c b b) f ∙ sym (ap (λ o. match_ordering o b a a) e)
  greater_three a b c Less Greater e f = ap (λ o. match_ordering o c b b) f ∙ sym (ap (λ o. match_ordering o b a a) e)
  greater_three a b c Equal Less e f = refl
  greater_three a b c Equal Equal e f =
      kept_first a c (cmp a c) refl (upto order c b a (not_below b c Equal f refl) (not_below a b Equal e refl))
      ∙ sym (ap (λ o. match_ordering o b a a) e)
  greater_three a b c Equal Greater e f =
      kept_first a c (cmp a c) refl (upto order c b a (not_below b c Greater f refl) (not_below a b Equal e refl))
      ∙ sym (ap (λ o. match_ordering o b a a) e)
  greater_three a b c Greater Less e f = refl
  greater_three a b c Greater Equal e f =
      kept_first a c (cmp a c) refl (upto order c b a (not_below b c Equal f refl) (not_below a b Greater e refl))
      ∙ sym (ap (λ o. match_ordering o b a a) e)
  greater_three a b c Greater Greater e f =
      kept_first a c (cmp a c) refl (upto order c b a (not_below b c Greater f refl) (not_below a b Greater e refl))
      ∙ sym (ap (λ o. match_ordering o b a a) e)

  greater_keeps : (Valid : A → Type 0) (a b : A) (o : Ordering) → Valid a → Valid b → Valid (match_ordering o b a a)
  greater_keeps Valid a b Less u v = v
  greater_keeps Valid a b Equal u v = u
  greater_keeps Valid a b Greater u v = u

  -- taking the greater obeys the laws of a join
  pub greater_of-laws : (Valid : A → Type 0) → JoinLaws Valid (greater_of cmp)
  greater_of-laws Valid = record {
    idempotent = λ a u. greater_itself a (cmp a a);
    commutative = λ a b u v. greater_comm a b (cmp a b) refl;
    associative = λ a b c u v w. greater_three a b c (cmp a b) (cmp b c) refl refl;
    keeps = λ a b u v. greater_keeps Valid a b (cmp a b) u v;
  }
