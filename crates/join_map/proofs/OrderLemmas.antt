-- Places in the order of the keys there, and the entries at them.
use Rattle.std.proofs.Common.{◌≡◌, ℕ, zero, suc, ◌+◌, ◌<◌, ◌≤◌, inl, inr, List, [], ◌∷◌, ◌++◌, length, get_or, take, drop, set}
use Rattle.std.proofs.Common.{Ordering, Less, Equal, refl, sym, ap, ◌∙◌, subst, arith, append_assoc, length-append}
use borrow.Rule.Slice.PartMut.{mid_of, post_of, put_mid, put_same, same_len_mid}
use Rattle.std.specs.{Cmp.{IsTotalOrder}, List.{All, AllByRecursion, Contains}, List.Sorted.{IsPermutation, IsStrictlySortedBy}}
use Rattle.std.specs.Map.{keys_of}
use Rattle.std.proofs.lemmas.{Bool.{cases_lt}, List.{append-nil, length-map, map-append, drop_all, drop_more, get_or_default}}
use Rattle.std.proofs.lemmas.{List.{take-append-drop}, List.Elements.{All-contains, All-from_recursion, Contains-append_left}}
use Rattle.std.proofs.lemmas.List.{Elements.{Contains-push, recursion_from_All}, Sorted.{All-permutation, Contains-permutation}}
use Rattle.std.proofs.lemmas.List.Sorted.{IsPermutation-append_left, IsPermutation-append_right, length_permutation}
use Rattle.join_map.specs.Blocks.{AllFilled, AllWithin, ArePlaces, IsOrder, entries_of, picked, places_of}
use Rattle.join_map.specs.{Entries.{AllValid, IsJoinMap, gathered, joined, one_entry}, Join.{JoinLaws, IsAtMost}}
use Rattle.join_map.specs.laws.Entries.{above_trans, joined-none, sorted_above, IsJoinMap-none, IsJoinMap-one, joined-laws}
use Rattle.join_map.specs.{laws.Join.{IsAtMost-least, IsAtMost-left, IsAtMost-right, IsAtMost-trans}, declared.order.Ranked.{Ranked}}
use Rattle.join_map.proofs.{BlockLemmas.{entries_of-append, filled-append}, GatherLemmas.{map-gathered, map-joined}}
use Rattle.join_map.proofs.PlaceLemmas.{within-both, within-more}
use Rattle.std.proofs.lemmas.List.{length-set}

-- ---- each place once

pub order_more : (n : ℕ) (ps : List ℕ) → IsOrder n ps → IsOrder (n + 1) (ps ++ n ∷ [])
order_more n ps o = record {
  within = within-both (n + 1) ps (n ∷ []) (within-more n (n + 1) ps (omega arith) o.within) (omega arith, tt);
  all = omega (arith, o.all, length-append ps (n ∷ []));
  each = λ p l. elim (cases_lt p n) [
    | inl less ↦ Contains-append_left ps (n ∷ []) p (o.each p less)
    | inr last ↦ subst (Contains (ps ++ n ∷ [])) (omega (arith, l, last)) (Contains-push ps n)
  ];
}

pub order-permutation : (n : ℕ) (ps qs : List ℕ) → IsPermutation ps qs → IsOrder n ps → IsOrder n qs
order-permutation n ps qs moved o =
    let P : ℕ → Type 0 = λ p. p < n in
    record {
      within = recursion_from_All P qs (All-permutation P ps qs moved (All-from_recursion P ps o.within));
      all = o.all ∙ sym (length_permutation ps qs moved);
      each = λ p l. Contains-permutation ps qs p moved (o.each p l);
    }

-- a place with other bytes of its key
pub places_of-set : (order : List Ranked) (i : ℕ) (r d : Ranked) → i < length order → r.place ≡ (get_or order i d).place
    → places_of (set order i r) ≡ places_of order
places_of-set [] i r d l is = refl
places_of-set (o ∷ order) zero r d l is = ap (λ p. p ∷ places_of order) is
places_of-set (o ∷ order) (suc i) r d l is = ap (λ ps. o.place ∷ ps) (places_of-set order i r d (omega (arith, l)) is)

-- places of which a part was sorted
pub part-sorted : (order part : List Ranked) (a k : ℕ) → IsPermutation (places_of (mid_of a k order)) (places_of part)
    → IsPermutation (places_of order) (places_of (put_mid a k order part))
part-sorted order part a k moved =
    let front = take a order in
    let back = post_of a k order in
    let parts : (xs : List Ranked) → places_of (put_mid a k order xs) ≡ places_of front ++ (places_of xs ++ places_of back) =
    λ xs. map-append (λ ranked. ranked.place) front (xs ++ back)
    ∙ ap (λ ps. places_of front ++ ps) (map-append (λ ranked. ranked.place) xs back) in
    subst (λ ps. IsPermutation ps (places_of (put_mid a k order part))) (sym (parts (mid_of a k order))
    ∙ ap places_of (put_same a k order))
    (subst (IsPermutation (places_of front ++ (places_of (mid_of a k order) ++ places_of back))) (sym (parts part))
    (IsPermutation-append_right (places_of front) _ _ (IsPermutation-append_left (places_of back) _ _ moved)))

pub part-length : (order part : List Ranked) (a k : ℕ) → IsPermutation (places_of (mid_of a k order)) (places_of part)
    → length (put_mid a k order part) ≡ length order
part-length order part a k moved = grind (arith, same_len_mid, length-map, length_permutation, mid_of)

pub ArePlaces_order : {E : Type 0} (es : List E) (ps : List ℕ) (bs : List (List ℕ)) → IsOrder (length es) ps
    → entries_of bs ≡ ps → AllFilled bs → ArePlaces es bs
ArePlaces_order es ps bs o is filled = grind arith

-- the places from i on
pub place_next : (ps : List ℕ) (i p : ℕ) → i < length ps → p ≡ get_or ps i p → drop i ps ≡ p ∷ drop (i + 1) ps
place_next ps i p l is = drop_more ps i p l ∙ ap (λ q. q ∷ drop (i + 1) ps) (sym is)

-- the first n of the places that are left go to a block
pub cut-more : (bs cs : List (List ℕ)) (ps rest front back : List ℕ) (n : ℕ) → entries_of bs ++ rest ≡ ps
    → front ≡ take n rest → back ≡ drop n rest → cs ≡ bs ++ front ∷ [] → entries_of cs ++ back ≡ ps
cut-more bs cs ps rest front back n was first second is = grind (arith, entries_of-append, append-nil, append_assoc, take-append-drop)

pub filled-more : (bs cs : List (List ℕ)) (front : List ℕ) → AllFilled bs → 0 < length front → cs ≡ bs ++ front ∷ [] → AllFilled cs
filled-more bs cs front f some is = subst AllFilled (sym is) (filled-append bs (front ∷ []) f (some, tt))

-- ---- what holds of each entry

module _ {E : Type 0} (P : E → Type 0) where
  abbrev Each : List E → Type 0
  Each = AllByRecursion P

  each-both : (xs ys : List E) → Each xs → Each ys → Each (xs ++ ys)
  each-both [] ys a b = b
  each-both (x ∷ xs) ys a b = (a.0, each-both xs ys a.1 b)

  each-front : (xs ys : List E) → Each (xs ++ ys) → Each xs
  each-front [] ys a = tt
  each-front (x ∷ xs) ys a = (a.0, each-front xs ys a.1)

  each-back : (xs ys : List E) → Each (xs ++ ys) → Each ys
  each-back [] ys a = a
  each-back (x ∷ xs) ys a = each-back xs ys a.1

  each-at : (es : List E) (p : ℕ) → Each es → Each (take 1 (drop p es))
  each-at [] zero a = tt
  each-at [] (suc p) a = tt
  each-at (e ∷ es) zero a = (a.0, tt)
  each-at (e ∷ es) (suc p) a = each-at es p a.1

  pub each-picked : (es : List E) (ps : List ℕ) → Each es → Each (picked es ps)
  each-picked es [] a = tt
  each-picked es (p ∷ ps) a = each-both (take 1 (drop p es)) (picked es ps) (each-at es p a) (each-picked es ps a)

  each-of : (es : List E) (ps : List ℕ) → Each (picked es ps) → AllByRecursion (λ p. Each (take 1 (drop p es))) ps
  each-of es [] a = tt
  each-of es (p ∷ ps) a =
      (each-front (take 1 (drop p es)) (picked es ps) a, each-of es ps (each-back (take 1 (drop p es)) (picked es ps) a))

  each-from : (es : List E) → ((p : ℕ) → p < length es → Each (take 1 (drop p es))) → Each es
  each-from [] at = tt
  each-from (e ∷ es) at = ((at 0 (omega arith)).0, each-from es (λ p l. at (suc p) (omega (arith, l))))

  -- what holds of the entries at all places holds of all entries
  pub each-of_picked : (es : List E) (ps : List ℕ) → ((p : ℕ) → p < length es → Contains ps p) → Each (picked es ps) → Each es
  each-of_picked es ps all a =
      let P : ℕ → Type 0 = λ p. Each (take 1 (drop p es)) in
      let at : All P ps = All-from_recursion P ps (each-of es ps a) in
      each-from es (λ p l. All-contains P ps p at (all p l))

module _ {K V : Type 0} (Valid : V → Type 0) where
  pub valid-each : (es : List (K × V)) → AllValid Valid es → AllByRecursion (λ e. Valid e.1) es
  valid-each [] a = tt
  valid-each (e ∷ es) a = (a.0, valid-each es a.1)

  pub each-valid : (es : List (K × V)) → AllByRecursion (λ e. Valid e.1) es → AllValid Valid es
  each-valid [] a = tt
  each-valid (e ∷ es) a = (a.0, each-valid es a.1)

module _ {K V : Type 0} {cmp : K → K → Ordering} (order : IsTotalOrder cmp) (exact : (a b : K) → cmp a b ≡ Equal → a ≡ b) where
  -- ---- keys that ascend from one place to the next

  abbrev pub Ascend : List (K × V) → List ℕ → Type 0
  Ascend es ps = IsStrictlySortedBy cmp (keys_of (picked es ps))

  one_of : (es : List (K × V)) (p : ℕ) (e : K × V) (ps : List ℕ) → p < length es → e ≡ get_or es p e
      → picked es (p ∷ ps) ≡ e ∷ picked es ps
  one_of es p e ps l is = ap (λ xs. take 1 xs ++ picked es ps) (drop_more es p e l) ∙ ap (λ x. x ∷ picked es ps) (sym is)

  sorted_more : (e f : K × V) (fs : List (K × V)) → cmp e.0 f.0 ≡ Less → IsStrictlySortedBy cmp (keys_of (f ∷ fs))
      → IsStrictlySortedBy cmp (keys_of (e ∷ f ∷ fs))
  unfolding IsStrictlySortedBy
  sorted_more e f fs less s = ((less, above_trans order exact e.0 f.0 fs less (sorted_above order exact f fs s)), s)

  pub ascend-more : (es : List (K × V)) (p q : ℕ) (e f : K × V) (ps : List ℕ) → p < length es → q < length es
      → e ≡ get_or es p e → f ≡ get_or es q f → cmp e.0 f.0 ≡ Less → Ascend es (q ∷ ps) → Ascend es (p ∷ q ∷ ps)
  ascend-more es p q e f ps l m is_e is_f less s = grind (arith, one_of es q f ps m is_f, one_of es p e (q ∷ ps) l is_e, sorted_more)

  pub ascend-none : (es : List (K × V)) (ps : List ℕ) → length ps ≡ 0 → Ascend es ps
  unfolding IsStrictlySortedBy
  ascend-none es [] l = tt
  ascend-none es (p ∷ ps) l = absurd (omega (arith, l))

  ascend-one : (es : List (K × V)) (p : ℕ) → p < length es → Ascend es (p ∷ [])
  unfolding IsStrictlySortedBy
  ascend-one [] p l = absurd (omega (arith, l))
  ascend-one (e ∷ es) p l = grind (arith, one_of, get_or_default)

  -- a step of a walk over places of which those after `last` are still to come
  pub ascend-step : (W : Type 0) (es : List (K × V)) (ps : List ℕ) (i last p : ℕ) (e f : K × V) → i < length ps
      → p ≡ get_or ps i p → last < length es → AllWithin (length es) (drop i ps) → e ≡ get_or es last e
      → f ≡ get_or es p f → cmp e.0 f.0 ≡ Less → (Ascend es (last ∷ drop i ps) → W)
      → (p < length es) × AllWithin (length es) (drop (i + 1) ps) × (Ascend es (p ∷ drop (i + 1) ps) → W)
  ascend-step W es ps i last p e f l is in_es w is_e is_f less leads = grind (arith, place_next, ascend-more)

  pub ascend-end : (W : Type 0) (es : List (K × V)) (ps : List ℕ) (i last : ℕ) → length ps ≤ i → last < length es
      → (Ascend es (last ∷ drop i ps) → W) → W
  ascend-end W es ps i last l in_es leads =
      leads (subst (λ qs. Ascend es (last ∷ qs)) (sym (drop_all i ps l)) (ascend-one es last in_es))

  -- ---- the same entries in another order

  module _ {Valid : V → Type 0} {join : V → V → V} (laws : JoinLaws Valid join) where
    abbrev Laws : JoinLaws (IsJoinMap cmp Valid) (joined cmp join)
    Laws = joined-laws order exact laws

    abbrev Below : List (K × V) → K × V → Type 0
    Below m e = IsAtMost (joined cmp join) (one_entry e.0 e.1) m

    -- the map of entries is at most each map that each of them is at most
    least : (a m es : List (K × V)) → IsJoinMap cmp Valid a → IsJoinMap cmp Valid m → AllValid Valid es
        → IsAtMost (joined cmp join) a m → AllByRecursion (Below m) es → IsAtMost (joined cmp join) (joined cmp join a es) m
    least a m [] is_a is_m v under each = under
    least a m (e ∷ es) is_a is_m v under each =
        let one = one_entry e.0 e.1 in
        let is_one = IsJoinMap-one order exact laws e.0 e.1 v.0 in
        least (joined cmp join a one) m es (Laws.keeps a one is_a is_one) is_m v.1
        (IsAtMost-least Laws a one m is_a is_one is_m under each.0) each.1

    above_start : (a es : List (K × V)) → IsJoinMap cmp Valid a → AllValid Valid es
        → IsAtMost (joined cmp join) a (joined cmp join a es)
    above_start a [] is_a v = Laws.idempotent a is_a
    above_start a (e ∷ es) is_a v =
        let one = one_entry e.0 e.1 in
        let is_one = IsJoinMap-one order exact laws e.0 e.1 v.0 in
        let next = joined cmp join a one in
        let is_next = Laws.keeps a one is_a is_one in
        IsAtMost-trans Laws a next (joined cmp join next es) is_a is_next (map-joined order exact laws next es is_next v.1)
        (IsAtMost-left Laws a one is_a is_one) (above_start next es is_next v.1)

    -- each entry is at most the map of all
    each_below : (a es : List (K × V)) → IsJoinMap cmp Valid a → AllValid Valid es → AllByRecursion (Below (joined cmp join a es)) es
    each_below a [] is_a v = tt
    each_below a (e ∷ es) is_a v =
        let one = one_entry e.0 e.1 in
        let is_one = IsJoinMap-one order exact laws e.0 e.1 v.0 in
        let next = joined cmp join a one in
        let is_next = Laws.keeps a one is_a is_one in (
          IsAtMost-trans Laws one next (joined cmp join next es) is_one is_next (map-joined order exact laws next es is_next v.1)
              (IsAtMost-right Laws a one is_a is_one) (above_start next es is_next v.1),
          each_below next es is_next v.1,
        )

    pub map_picked : (es : List (K × V)) (ps : List ℕ) → AllValid Valid es → Ascend es ps → IsJoinMap cmp Valid (picked es ps)
    map_picked es ps v s = grind (arith, each-valid, each-picked, valid-each)

    -- ascending entries at all places are the map of all entries
    pub picked_gathered : (es : List (K × V)) (ps : List ℕ) → IsOrder (length es) ps → AllValid Valid es → Ascend es ps
        → picked es ps ≡ gathered cmp join es
    picked_gathered es ps o v s =
        let ys = picked es ps in
        let is_ys = map_picked es ps v s in
        let w = is_ys.valid in
        let none = IsJoinMap-none order exact laws in
        let A = gathered cmp join es in
        let B = gathered cmp join ys in
        let is_A = map-gathered order exact laws es v in
        let is_B = map-gathered order exact laws ys w in
        let empty : (m : List (K × V)) → IsJoinMap cmp Valid m → IsAtMost (joined cmp join) [] m =
        λ m is. joined-none order exact laws m is in
        let up : IsAtMost (joined cmp join) B A =
        least [] A ys none is_A w (empty A is_A) (each-picked (Below A) es ps (each_below [] es none v)) in
        let down : IsAtMost (joined cmp join) A B =
        least [] B es none is_B v (empty B is_B) (each-of_picked (Below B) es ps o.each (each_below [] ys none w)) in
        sym (joined-none order exact laws ys is_ys)
        ∙ sym down ∙ Laws.commutative A B is_A is_B ∙ up

-- WHAT FUNCTIONS ARE PROVED BY

pub ruleset for_note_prefixes = (places_of-set, length-set)
