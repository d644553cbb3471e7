-- Walking over flush moments in key order.
use Rattle.std.proofs.Common.{◌≡◌, ◌≢◌, List, [], ◌∷◌, Option, None, Some, refl, sym, ap, ◌∙◌, subst}
use Rattle.std.specs.{Borrow.{Bor}, declared.cmp.Ordering.{Ordering}, declared.cmp.Ordering.TheVariants.{Less, Equal, Greater}}
use Rattle.std.specs.{Ordering.{ordering_reverse}, Cmp.{tied_itself}, List.Sorted.{IsStrictlySortedBy}, Map.{keys_of}}
use Rattle.std.specs.Map.Iter.{TakesFirst, deref_pair}
use Rattle.mdns_message.specs.{RecordSet.{RecordSet}, Resource.{set_key_cmp}, laws.Resource.{set_key_cmp-total, set_key_cmp-exact}}
use Rattle.join_map.specs.{Entries.{value_at}, laws.Entries.{greater_back, sorted_above, sorted_rest, above_trans, value_at-above}}
use Rattle.join_map.specs.laws.Entries.{value_at-equal, value_at-greater}
use Rattle.mdns_join.specs.FlushWalk.{with_next}

-- the next entry is there
pub with_next-some : {K V : Type 0} (next : Option (Bor K × Bor V)) (e : Bor K × Bor V) (rest : List (K × V))
    → next ≡ Some e → with_next next rest ≡ deref_pair e ∷ rest
with_next-some next e rest is = ap (λ o. with_next o rest) is

-- one entry was taken
pub with_next-taken : {K V : Type 0} (s t : List (K × V)) (r : Option (Bor K × Bor V)) → TakesFirst deref_pair s r t → with_next r t ≡ s
with_next-taken s t None h = sym h.0
with_next-taken s t (Some e) h = sym h

after : (set first later : RecordSet) (o : Ordering) → set_key_cmp set later ≡ o → o ≢ Greater → set_key_cmp set first ≡ Greater
    → set_key_cmp later first ≡ Greater
after set first later Less e n g =
    set_key_cmp-total.antisymm later first
    ∙ ap ordering_reverse (set_key_cmp-total.trans first set later (greater_back set_key_cmp-total set first g) e)
after set first later Equal e n g = subst (λ (s : RecordSet). set_key_cmp s first ≡ Greater) (set_key_cmp-exact set later e) g
after set first later Greater e n g = absurd (n refl)

module _ {V : Type 0} where
  -- `new` has the same flush moments as `old` for the set and those after it
  abbrev pub HasLater : RecordSet → List (RecordSet × V) → List (RecordSet × V) → Type 0
  HasLater set old new = (later : RecordSet) → set_key_cmp set later ≢ Greater → value_at set_key_cmp later new ≡ value_at set_key_cmp later old

  -- the entries that are left of all: none of the set or after it was dropped
  pub record IsLeft (set : RecordSet) (all left : List (RecordSet × V)) : Type 0 where
    pub later : HasLater set all left
    pub sorted : IsStrictlySortedBy set_key_cmp (keys_of left)

  module _ (set : RecordSet) (all left : List (RecordSet × V)) (l : IsLeft set all left) where
    found : (o : Option V) → value_at set_key_cmp set left ≡ o → o ≡ value_at set_key_cmp set all
    found o e = sym e ∙ l.later set (λ g. absurd (equal_greater (sym (tied_itself set_key_cmp-total set) ∙ g)))
      where
        equal_greater : Equal ≡ Greater → ⊥
        equal_greater e = cc

    -- no entry is left
    pub none_left : left ≡ [] → None ≡ value_at set_key_cmp set all
    none_left e = found None (ap (value_at set_key_cmp set) e)

    module _ (e : RecordSet × V) (rest : List (RecordSet × V)) (is : left ≡ e ∷ rest) where
      sorted_is : IsStrictlySortedBy set_key_cmp (keys_of (e ∷ rest))
      sorted_is = subst (λ es. IsStrictlySortedBy set_key_cmp (keys_of es)) is l.sorted

      -- the next entry is of a set after this one
      pub none_of_set : set_key_cmp set e.0 ≡ Less → None ≡ value_at set_key_cmp set all
      none_of_set o = found None (ap (value_at set_key_cmp set) is
          ∙ value_at-above set_key_cmp-total set_key_cmp-exact set (e ∷ rest) (
            o,
            above_trans set_key_cmp-total set_key_cmp-exact set e.0 rest o
                (sorted_above set_key_cmp-total set_key_cmp-exact e rest sorted_is),
          ))

      -- the next entry is of this set
      pub next_of_set : set_key_cmp set e.0 ≡ Equal → Some e.1 ≡ value_at set_key_cmp set all
      next_of_set o = found (Some e.1) (ap (value_at set_key_cmp set) is
          ∙ value_at-equal set_key_cmp-total set_key_cmp-exact set e rest o)

      -- the next entry is of a set before this one, and is dropped
      pub next_dropped : (new : List (RecordSet × V)) → new ≡ rest → set_key_cmp set e.0 ≡ Greater → IsLeft set all new
      next_dropped new same o =
          subst (IsLeft set all) (sym same)
          (record {
            later = λ later n. sym (value_at-greater set_key_cmp-total set_key_cmp-exact later e rest
                (after set e.0 later (set_key_cmp set later) refl n o))
                ∙ ap (value_at set_key_cmp later) (sym is) ∙ l.later later n;
            sorted = sorted_rest set_key_cmp-total set_key_cmp-exact e rest sorted_is;
          })

pub ruleset for_moments = (with_next-some, with_next-taken, none_left, none_of_set, next_of_set)
