-- Joins: operations that combine two values so that neither order nor repeats matter.
use Rattle.std.specs.{Prelude.{◌≡◌}, declared.cmp.Ordering.{Ordering}, Ordering.{match_ordering}}

-- the laws of a join, on the values that `Valid` holds of
pub record JoinLaws {A : Type 0} (Valid : A → Type 0) (join : A → A → A) : Type 0 where
  pub idempotent : (a : A) → Valid a → join a a ≡ a
  pub commutative : (a b : A) → Valid a → Valid b → join a b ≡ join b a
  pub associative : (a b c : A) → Valid a → Valid b → Valid c → join (join a b) c ≡ join a (join b c)
  pub keeps : (a b : A) → Valid a → Valid b → Valid (join a b)

-- a is at most b: joining it to b adds nothing
abbrev pub IsAtMost : {A : Type 0} → (A → A → A) → A → A → Type 0
IsAtMost join a b = join a b ≡ b

-- the value is at least the old one, and at most the join of the old one with the other
pub record IsPartOfJoin {A : Type 0} (join : A → A → A) (old other value : A) : Type 0 where
  pub from_old : IsAtMost join old value
  pub to_join : IsAtMost join value (join old other)

-- the greater of two values
abbrev pub greater_of : {A : Type 0} → (A → A → Ordering) → A → A → A
greater_of cmp a b = match_ordering (cmp a b) b a a
