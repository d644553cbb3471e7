-- What a map has at a key, and how it changes there, by the spot of the key.
use Rattle.std.proofs.Common.{arith, ◌≡◌, List, ◌∷◌, ◌++◌, Some, None, Result, Ok, Err, OnOk}
use Rattle.std.proofs.{Common.{OnErr, Ordering, Equal, sym, ap, ◌∙◌, subst}, lemmas.Result.{on_err_weaker, on_ok_weaker}}
use Rattle.std.specs.{BTreeMap.{insert_entry}, Cmp.{IsTotalOrder}}
use Rattle.join_map.specs.{Blocks.{entries_of, before, after, IsEntry, IsAt, IsFree, IsRewritten, JoinsAt}, declared.blocks.Spot.{Spot}}
use Rattle.join_map.specs.{Entries.{value_at, IsJoinMap, put_entry, joined, one_entry}, laws.Entries.{insert_entry-put, joined-laws}}
use Rattle.join_map.specs.{laws.Entries.{IsJoinMap-one, IsJoinMap-put}, Join.{JoinLaws, IsPartOfJoin}, laws.Join.{IsPartOfJoin-old}}
use Rattle.join_map.proofs.{BlockLemmas.{entries_of-gap, entries_of-split}, KeyLemmas.{Sorted, Written, value_at-free, insert_free}}
use Rattle.join_map.proofs.{KeyLemmas.{value_at-entry, written_entry, sorted_written}, PutLemmas.{written_ok, written_err, written_map}}

same_first : {E : Type 0} (x y : E) (xs ys : List E) → x ∷ xs ≡ y ∷ ys → x ≡ y
same_first x y xs ys e = cc

module _ {K V : Type 0} (cmp : K → K → Ordering) where
  -- the entry at the spot of a key has that key
  key_at : (bs : List (List (K × V))) (k : K) (s : Spot) (e : K × V) → IsAt cmp bs k s → IsEntry bs s e → cmp k e.0 ≡ Equal
  key_at bs k s e a is = subst (λ (x : K × V). cmp k x.0 ≡ Equal) (same_first a.entry e _ _ (sym a.is ∙ is)) a.same

module _ {K V : Type 0} {cmp : K → K → Ordering} (order : IsTotalOrder cmp) (exact : (a b : K) → cmp a b ≡ Equal → a ≡ b) where
  -- the value at a key is that at its spot
  pub value_at-spot : (bs : List (List (K × V))) (k : K) (s : Spot) (e : K × V) → Sorted order exact (entries_of bs)
      → IsAt cmp bs k s → IsEntry bs s e → value_at cmp k (entries_of bs) ≡ Some e.1
  value_at-spot bs k s e o a is = grind (arith, entries_of-split bs s a.spot.0, value_at-entry, key_at cmp bs k s e a is)

  in_order : (bs cs : List (List (K × V))) (s : Spot) (e : K × V) (u : V) → Sorted order exact (entries_of bs)
      → (r : IsRewritten bs cs s e u) → Sorted order exact (before bs s ++ e ∷ r.rest)
  in_order bs cs s e u m r = subst (λ xs. Sorted order exact xs) r.was m

  value_at-rewritten : (bs cs : List (List (K × V))) (k : K) (s : Spot) (e : K × V) (u : V)
      → Sorted order exact (entries_of bs) → IsAt cmp bs k s → IsRewritten bs cs s e u
      → value_at cmp k (entries_of bs) ≡ Some e.1
  value_at-rewritten bs cs k s e u m a r = grind (arith, value_at-entry, in_order, key_at)

  is_written : (bs cs : List (List (K × V))) (k : K) (s : Spot) (e : K × V) (u : V)
      → Sorted order exact (entries_of bs) → IsAt cmp bs k s → IsRewritten bs cs s e u
      → entries_of cs ≡ Written order exact k (entries_of bs) u
  is_written bs cs k s e u m a r = grind (arith, written_entry, in_order, key_at)

  sorted_rewritten : (bs cs : List (List (K × V))) (s : Spot) (e : K × V) (u : V) → Sorted order exact (entries_of bs)
      → IsRewritten bs cs s e u → Sorted order exact (entries_of cs)
  sorted_rewritten bs cs s e u m r =
      subst (λ xs. Sorted order exact xs) (sym r.now) (sorted_written order exact u (before bs s) r.rest e (in_order bs cs s e u m r))

  -- a key that isn't in the map has no value
  pub value_at-gap : (bs : List (List (K × V))) (k : K) (s : Spot) → IsFree cmp bs k s → value_at cmp k (entries_of bs) ≡ None
  value_at-gap bs k s f = ap (value_at cmp k) (entries_of-gap bs s f.gap)
      ∙ value_at-free order exact k (before bs s) (after bs s) f.below f.above

module _ {K V : Type 0} {cmp : K → K → Ordering} (order : IsTotalOrder cmp) (exact : (a b : K) → cmp a b ≡ Equal
    → a ≡ b) {Valid : V → Type 0} {join : V → V → V} (laws : JoinLaws Valid join) where
  abbrev Maps : List (K × V) → Type 0
  Maps es = IsJoinMap cmp Valid es

  -- ---- an entry that is there

  pub joined_ok : {F : Type 0} (r : Result (Unit {0}) F) (bs cs : List (List (K × V))) (k : K) (s : Spot) (v : V)
      → Maps (entries_of bs) → IsAt cmp bs k s → JoinsAt Valid join bs cs s v r
      → OnOk r (entries_of cs ≡ put_entry cmp join (entries_of bs) k v)
  joined_ok r bs cs k s v m a j =
      written_ok order exact laws r k j.value v j.entry.1 (entries_of bs) (entries_of cs) m
      (value_at-rewritten order exact bs cs k s j.entry j.value m.sorted a j.rewritten)
      (is_written order exact bs cs k s j.entry j.value m.sorted a j.rewritten) j.ok

  pub joined_err : {F : Type 0} (r : Result (Unit {0}) F) (bs cs : List (List (K × V))) (k : K) (s : Spot) (v : V)
      → Maps (entries_of bs) → IsAt cmp bs k s → JoinsAt Valid join bs cs s v r
      → OnErr r (IsPartOfJoin (joined cmp join) (entries_of bs) (one_entry k v) (entries_of cs))
  joined_err r bs cs k s v m a j =
      written_err order exact laws r k j.value v j.entry.1 (entries_of bs) (entries_of cs) m j.valid
      (sorted_rewritten order exact bs cs s j.entry j.value m.sorted j.rewritten) j.other
      (value_at-rewritten order exact bs cs k s j.entry j.value m.sorted a j.rewritten)
      (is_written order exact bs cs k s j.entry j.value m.sorted a j.rewritten) j.err

  pub joined_map : {F : Type 0} (r : Result (Unit {0}) F) (bs cs : List (List (K × V))) (k : K) (s : Spot) (v : V)
      → Maps (entries_of bs) → IsAt cmp bs k s → JoinsAt Valid join bs cs s v r → Maps (entries_of cs)
  joined_map r bs cs k s v m a j =
      written_map order exact laws k j.value (entries_of bs) (entries_of cs) m j.valid
      (is_written order exact bs cs k s j.entry j.value m.sorted a j.rewritten)
      (sorted_rewritten order exact bs cs s j.entry j.value m.sorted j.rewritten)

  -- ---- an entry that isn't there

  -- the entry put there is the entry joined in
  pub put_ok_at : (bs : List (List (K × V))) (k : K) (s : Spot) (v : V) (gs : List (K × V)) → IsFree cmp bs k s
      → gs ≡ before bs s ++ (k, v) ∷ after bs s → gs ≡ put_entry cmp join (entries_of bs) k v
  put_ok_at bs k s v gs f is =
      is ∙ sym (insert_free order exact k v (before bs s) (after bs s) f.below f.above)
      ∙ sym (ap (λ es. insert_entry cmp es k v) (entries_of-gap bs s f.gap))
      ∙ insert_entry-put order exact laws k v (entries_of bs) (value_at-gap order exact bs k s f)

  put_map_at : (bs : List (List (K × V))) (k : K) (s : Spot) (v : V) (gs : List (K × V)) → Maps (entries_of bs)
      → Valid v → IsFree cmp bs k s → gs ≡ before bs s ++ (k, v) ∷ after bs s → Maps gs
  put_map_at bs k s v gs m h f is = subst (λ es. Maps es) (sym (put_ok_at bs k s v gs f is))
      (IsJoinMap-put order exact laws k v (entries_of bs) h m)

  -- a map stays one, whether the entry was put there or found no memory
  pub inserted_map : {F : Type 0} (r : Result (Unit {0}) F) (bs : List (List (K × V))) (k : K) (s : Spot) (v : V) (gs : List (K × V))
      → Maps (entries_of bs) → Valid v → IsFree cmp bs k s → OnOk r (gs ≡ before bs s ++ (k, v) ∷ after bs s)
      → OnErr r (gs ≡ entries_of bs) → Maps gs
  inserted_map (Ok x) bs k s v gs m h f ok err = put_map_at bs k s v gs m h f ok
  inserted_map (Err x) bs k s v gs m h f ok err = subst (λ es. Maps es) (sym err) m

  pub kept_part : (k : K) (v : V) (es gs : List (K × V)) → Maps es → Valid v → gs ≡ es
      → IsPartOfJoin (joined cmp join) es (one_entry k v) gs
  kept_part k v es gs m h is =
      subst (λ xs. IsPartOfJoin (joined cmp join) es (one_entry k v) xs) (sym is)
      (IsPartOfJoin-old (joined-laws order exact laws) es (one_entry k v) m
      (IsJoinMap-one order exact laws k v h))

-- WHAT FUNCTIONS ARE PROVED BY

pub ruleset for_join_found = (inserted_map, joined_ok, joined_err, joined_map, put_ok_at, kept_part, on_err_weaker, on_ok_weaker)
