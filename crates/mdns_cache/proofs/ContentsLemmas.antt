-- The join of contents: its laws, and the contents between two contents and their join.
use Rattle.std.proofs.Common.{◌≡◌, ℕ, true, List, [], Option, None, Some, max, refl, sym, ap, ◌∙◌, subst, inl, inr, arith, nat_lt}
use Rattle.std.specs.{declared.cmp.Ordering.{Ordering}, List.Sorted.{IsStrictlySortedBy}}
use Rattle.std.proofs.lemmas.Bool.{ltb-true, ltb-false}
use Rattle.mdns_capture.specs.declared.moment.Moment.{Moment}
use Rattle.mdns_message.specs.{declared.key.Key.{Key}, RecordSet.{RecordSet}, Resource.{key_cmp, set_key_cmp}}
use Rattle.mdns_message.specs.laws.Resource.{key_cmp-total, key_cmp-exact, set_key_cmp-total, set_key_cmp-exact}
use Rattle.mdns_join.specs.{declared.latest.Latest.{Latest}, Latest.{IsLatest, later}, laws.Latest.{moment-same}}
use Rattle.mdns_join.specs.{Kept.{has, union, kept_union, IsKeptList}, laws.Kept.{heard_from_kept, union_parts}}
use Rattle.join_map.specs.{Join.{JoinLaws}, Entries.{joined_at, IsJoinMap, joined, one_entry}, laws.Entries.{value_at-join, sorted_none}}
use Rattle.mdns_cache.specs.Contents.{Contents, IsContents, IsUpTo, MapLaws, later_moment, join_of, last_at, flushes_at}
use Rattle.mdns_cache.proofs.StandsPartLemmas.{first, second, later-is}

-- ---- the maps

pub lasts-laws : MapLaws → JoinLaws (IsJoinMap key_cmp IsLatest) (joined key_cmp later)
unfolding MapLaws
lasts-laws laws = laws.0

pub flushes-laws : MapLaws → JoinLaws (IsJoinMap set_key_cmp IsKeptList) (joined set_key_cmp kept_union)
unfolding MapLaws
flushes-laws laws = laws.1

-- no entries, and one, are those of a map
module _ {K V : Type 0} (cmp : K → K → Ordering) (Valid : V → Type 0) where
  pub IsJoinMap-empty : IsJoinMap cmp Valid []
  IsJoinMap-empty = record { sorted = sorted_none cmp; valid = tt }

  pub IsJoinMap-single : (k : K) (v : V) → Valid v → IsJoinMap cmp Valid (one_entry k v)
  unfolding IsStrictlySortedBy
  IsJoinMap-single k v h = record { sorted = (tt, tt); valid = (h, tt) }

-- ---- moments

pub nanos-later : (a b : Moment) → (later_moment a b).nanos ≡ max a.nanos b.nanos
nanos-later a b = grind (arith, nat_lt, ltb-true, ltb-false)

later_moment-same : (a : Moment) → later_moment a a ≡ a
later_moment-same a = moment-same (later_moment a a) a (nanos-later a a ∙ omega arith)

later_moment-comm : (a b : Moment) → later_moment a b ≡ later_moment b a
later_moment-comm a b = moment-same (later_moment a b) (later_moment b a) (omega (arith, nanos-later a b, nanos-later b a))

later_moment-assoc : (a b c : Moment) → later_moment (later_moment a b) c ≡ later_moment a (later_moment b c)
later_moment-assoc a b c = grind (arith, moment-same, nanos-later)

-- ---- newest moments

abbrev pub newer : Option Moment → Option Moment → Option Moment
newer a b = joined_at later_moment a b

pub newer-same : (a : Option Moment) → newer a a ≡ a
newer-same None = refl
newer-same (Some a) = ap Some (later_moment-same a)

pub newer-comm : (a b : Option Moment) → newer a b ≡ newer b a
newer-comm None None = refl
newer-comm None (Some b) = refl
newer-comm (Some a) None = refl
newer-comm (Some a) (Some b) = ap Some (later_moment-comm a b)

pub newer-assoc : (a b c : Option Moment) → newer (newer a b) c ≡ newer a (newer b c)
newer-assoc None b c = refl
newer-assoc (Some a) None c = refl
newer-assoc (Some a) (Some b) None = refl
newer-assoc (Some a) (Some b) (Some c) = ap Some (later_moment-assoc a b c)

pub IsUpTo-left : (a b : Option Moment) (m : ℕ) → IsUpTo a m → IsUpTo (newer a b) m
IsUpTo-left None b m u = absurd u
IsUpTo-left (Some a) None m u = u
IsUpTo-left (Some a) (Some b) m u = let e = nanos-later a b in omega (arith, e, u)

pub IsUpTo-right : (a b : Option Moment) (m : ℕ) → IsUpTo b m → IsUpTo (newer a b) m
IsUpTo-right a b m u = subst (λ (o : Option Moment). IsUpTo o m) (newer-comm b a) (IsUpTo-left b a m u)

-- ---- contents by their parts

pub same_contents : (c d : Contents) → c.lasts ≡ d.lasts → c.flushes ≡ d.flushes → c.newest ≡ d.newest → c ≡ d
same_contents c d p q r = grind arith

-- ---- the join keeps contents

pub last_at-join : (c d : Contents) → IsContents c → IsContents d → (key : Key)
    → last_at key (join_of c d) ≡ joined_at later (last_at key c) (last_at key d)
unfolding join_of
last_at-join c d u v key = value_at-join key_cmp-total key_cmp-exact later key c.lasts d.lasts u.lasts.sorted v.lasts.sorted

pub flushes_at-join : (c d : Contents) → IsContents c → IsContents d → (set : RecordSet)
    → flushes_at set (join_of c d) ≡ joined_at kept_union (flushes_at set c) (flushes_at set d)
unfolding join_of
flushes_at-join c d u v set = value_at-join set_key_cmp-total set_key_cmp-exact kept_union set c.flushes d.flushes
    u.flushes.sorted v.flushes.sorted

pub newest-join : (c d : Contents) → (join_of c d).newest ≡ newer c.newest d.newest
unfolding join_of
newest-join c d = refl

-- a value of the join of two options is bounded where those of both sides are
pub later-bounded : (P : Latest → Type 0) (o p : Option Latest) → ((a : Latest) → o ≡ Some a → P a)
    → ((b : Latest) → p ≡ Some b → P b) → (l : Latest) → joined_at later o p ≡ Some l → P l
later-bounded P None p u v l e = v l e
later-bounded P (Some a) None u v l e = u l e
later-bounded P (Some a) (Some b) u v l e = grind (arith, later-is, first, second)

pub flush-bounded : (P : ℕ → Type 0) (o p : Option (List ℕ))
    → ((xs : List ℕ) (m : ℕ) → o ≡ Some xs → has xs m ≡ true → P m)
    → ((ys : List ℕ) (m : ℕ) → p ≡ Some ys → has ys m ≡ true → P m) → (ms : List ℕ) (m : ℕ)
    → joined_at kept_union o p ≡ Some ms → has ms m ≡ true → P m
flush-bounded P None p u v ms m e h = v ms m e h
flush-bounded P (Some xs) None u v ms m e h = u ms m e h
flush-bounded P (Some xs) (Some ys) u v ms m e h =
    let f : kept_union xs ys ≡ ms = cc in
    elim (union_parts xs ys m (heard_from_kept (union xs ys) m (subst (λ (zs : List ℕ). has zs m ≡ true) (sym f) h)))
    [ inl a ↦ u xs m refl a | inr b ↦ v ys m refl b ]

module _ (laws : MapLaws) where
  pub IsContents-join : (c d : Contents) → IsContents c → IsContents d → IsContents (join_of c d)
  unfolding join_of
  IsContents-join c d u v = record {
    lasts = (lasts-laws laws).keeps c.lasts d.lasts u.lasts v.lasts;
    flushes = (flushes-laws laws).keeps c.flushes d.flushes u.flushes v.flushes;
    lasts_by_newest = λ key l e. later-bounded (λ l. IsUpTo (newer c.newest d.newest) l.moment.nanos) (last_at key c) (last_at key d)
        (λ a p. IsUpTo-left c.newest d.newest a.moment.nanos (u.lasts_by_newest key a p))
        (λ b p. IsUpTo-right c.newest d.newest b.moment.nanos (v.lasts_by_newest key b p)) l (sym (last_at-join c d u v key) ∙ e);
    flushes_by_newest = λ set ms m e h. flush-bounded (IsUpTo (newer c.newest d.newest)) (flushes_at set c) (flushes_at set d)
        (λ xs m p q. IsUpTo-left c.newest d.newest m (u.flushes_by_newest set xs m p q))
        (λ ys m p q. IsUpTo-right c.newest d.newest m (v.flushes_by_newest set ys m p q)) ms m (sym (flushes_at-join c d u v set) ∙ e) h;
  }

  -- joining contents obeys the laws of a join
  pub join_of_laws : JoinLaws IsContents join_of
  unfolding join_of
  join_of_laws = grind (arith, same_contents, lasts-laws, flushes-laws, newer-same, newer-comm, newer-assoc, IsContents-join)
