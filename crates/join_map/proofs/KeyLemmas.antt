-- The entries before and after the place of a key, in key order.
use Rattle.std.proofs.Common.{◌≡◌, ℕ, suc, zero, ◌+◌, ◌-◌, ◌/◌, ◌<◌, ◌≤◌, length, take, drop, get_or, arith}
use Rattle.std.proofs.Common.{true≢false, Bool, true, false, cond, List, [], ◌∷◌, ◌++◌, Some, None, Ordering, Less}
use Rattle.std.proofs.Common.{Equal, Greater, refl, sym, ap, ◌∙◌, subst, is_eq}
use Rattle.std.proofs.{lemmas.List.{take-append-drop, get_or_read}, Math.Seq.{take-add}}
use Rattle.std.specs.{Ordering.{match_ordering, ordering_reverse, is_lt}, BTreeMap.{insert_entry}, Cmp.{IsTotalOrder}}
use Rattle.std.specs.{List.Sorted.{IsStrictlySortedBy}, Map.{keys_of, set_value}}
use Rattle.join_map.proofs.BlockLemmas.{entries_of-cut, entries_of-from}
use Rattle.join_map.specs.{Blocks.{AllAbove, AllBelow, IsEntry, IsOffset, IsAt, IsFree, IsSpot, block_at, entries_of}, declared.blocks.Spot.{Spot}}
use Rattle.join_map.specs.{Entries.{value_at}, laws.Entries.{sorted_none, greater_back, sorted_above, sorted_rest, above_trans}}
use Rattle.join_map.specs.laws.Entries.{value_at-above, value_at-equal, value_at-greater}

not_less : (o : Ordering) → o ≡ Equal → o ≡ Less → ⊥
not_less o e l = absurd (cc)

greater_not : (o : Ordering) → o ≡ Greater → o ≡ Less → ⊥
greater_not o e l = absurd (cc)

module _ {K : Type 0} {cmp : K → K → Ordering} (order : IsTotalOrder cmp) where
  -- a key at most k is below one that k isn't below
  below_by : (o : Ordering) (k x e : K) → cmp k e ≡ o → (o ≡ Less → ⊥) → cmp x e ≡ Less → cmp k x ≡ Greater
  below_by Less k x e h n l = absurd (n refl)
  below_by Equal k x e h n l = order.congr k e x h ∙ order.antisymm e x ∙ ap ordering_reverse l
  below_by Greater k x e h n l = order.antisymm k x ∙ ap ordering_reverse (order.trans x e k l (greater_back order k e h))

module _ {K V : Type 0} {cmp : K → K → Ordering} (order : IsTotalOrder cmp) (exact : (a b : K) → cmp a b ≡ Equal → a ≡ b) where
  abbrev pub Sorted : List (K × V) → Type 0
  Sorted es = IsStrictlySortedBy cmp (keys_of es)

  pub sorted_back : (xs ys : List (K × V)) → Sorted (xs ++ ys) → Sorted ys
  sorted_back [] ys s = s
  sorted_back (x ∷ xs) ys s = sorted_back xs ys (sorted_rest order exact x (xs ++ ys) s)

  above_front : (k : K) (xs ys : List (K × V)) → AllAbove cmp k (xs ++ ys) → AllAbove cmp k xs
  above_front k [] ys a = tt
  above_front k (x ∷ xs) ys a = (a.0, above_front k xs ys a.1)

  above_back : (k : K) (xs ys : List (K × V)) → AllAbove cmp k (xs ++ ys) → AllAbove cmp k ys
  above_back k [] ys a = a
  above_back k (x ∷ xs) ys a = above_back k xs ys a.1

  pub above_both : (k : K) (xs ys : List (K × V)) → AllAbove cmp k xs → AllAbove cmp k ys → AllAbove cmp k (xs ++ ys)
  above_both k [] ys a b = b
  above_both k (x ∷ xs) ys a b = (a.0, above_both k xs ys a.1 b)

  pub below_both : (k : K) (xs ys : List (K × V)) → AllBelow cmp k xs → AllBelow cmp k ys → AllBelow cmp k (xs ++ ys)
  below_both k [] ys a b = b
  below_both k (x ∷ xs) ys a b = (a.0, below_both k xs ys a.1 b)

  sorted_cons : (x : K × V) (xs : List (K × V)) → AllAbove cmp x.0 xs → Sorted xs → Sorted (x ∷ xs)
  unfolding IsStrictlySortedBy
  sorted_cons x xs a s = (a, s)

  pub sorted_front : (xs ys : List (K × V)) → Sorted (xs ++ ys) → Sorted xs
  sorted_front [] ys s = sorted_none cmp
  sorted_front (x ∷ xs) ys s =
      sorted_cons x xs (above_front x.0 xs ys (sorted_above order exact x (xs ++ ys) s))
      (sorted_front xs ys (sorted_rest order exact x (xs ++ ys) s))

  -- where k isn't below an entry, the entries before that one are below k
  pub below_first : (k : K) (xs ys : List (K × V)) (e : K × V) → Sorted (xs ++ e ∷ ys) → (cmp k e.0 ≡ Less → ⊥) → AllBelow cmp k xs
  below_first k [] ys e s n = tt
  below_first k (x ∷ xs) ys e s n = (
    below_by order (cmp k e.0) k x.0 e.0 refl n (above_back x.0 xs (e ∷ ys) (sorted_above order exact x (xs ++ e ∷ ys) s)).0,
    below_first k xs ys e (sorted_rest order exact x (xs ++ e ∷ ys) s) n,
  )

  -- where k is below an entry, it is below those after it
  pub above_first : (k : K) (e : K × V) (ys : List (K × V)) → Sorted (e ∷ ys) → cmp k e.0 ≡ Less → AllAbove cmp k (e ∷ ys)
  above_first k e ys s l = (l, above_trans order exact k e.0 ys l (sorted_above order exact e ys s))

  value_at-below : (k : K) (xs ys : List (K × V)) → AllBelow cmp k xs → value_at cmp k (xs ++ ys) ≡ value_at cmp k ys
  value_at-below k [] ys a = refl
  value_at-below k (x ∷ xs) ys a = value_at-greater order exact k x (xs ++ ys) a.0 ∙ value_at-below k xs ys a.1

  -- a key above all before a place and below all after it isn't among the entries
  pub value_at-free : (k : K) (xs ys : List (K × V)) → AllBelow cmp k xs → AllAbove cmp k ys → value_at cmp k (xs ++ ys) ≡ None
  value_at-free k xs ys a b = value_at-below k xs ys a ∙ value_at-above order exact k ys b

  insert_above : (k : K) (v : V) (ys : List (K × V)) → AllAbove cmp k ys → insert_entry cmp ys k v ≡ (k, v) ∷ ys
  insert_above k v [] b = refl
  insert_above k v (y ∷ ys) b = ap (λ o. match_ordering o ((k, v) ∷ y ∷ ys) ((y.0, v) ∷ ys) (y ∷ insert_entry cmp ys k v)) b.0

  -- and its entry is inserted at that place
  pub insert_free : (k : K) (v : V) (xs ys : List (K × V)) → AllBelow cmp k xs → AllAbove cmp k ys
      → insert_entry cmp (xs ++ ys) k v ≡ xs ++ (k, v) ∷ ys
  insert_free k v [] ys a b = insert_above k v ys b
  insert_free k v (x ∷ xs) ys a b = grind (arith, insert_free k v xs ys a.1 b)

  below_entry : (k : K) (xs ys : List (K × V)) (e : K × V) → Sorted (xs ++ e ∷ ys) → cmp k e.0 ≡ Equal → AllBelow cmp k xs
  below_entry k xs ys e s h = below_first k xs ys e s (not_less (cmp k e.0) h)

  -- the value at the key of an entry
  pub value_at-entry : (k : K) (xs ys : List (K × V)) (e : K × V) → Sorted (xs ++ e ∷ ys) → cmp k e.0 ≡ Equal
      → value_at cmp k (xs ++ e ∷ ys) ≡ Some e.1
  value_at-entry k xs ys e s h = value_at-below k xs (e ∷ ys) (below_entry k xs ys e s h) ∙ value_at-equal order exact k e ys h

  abbrev pub Written : K → List (K × V) → V → List (K × V)
  Written k es u = set_value (λ key. is_eq (cmp k key)) es u

  written_by : (k : K) (u : V) (xs ys : List (K × V)) (e : K × V) → AllBelow cmp k xs → cmp k e.0 ≡ Equal
      → Written k (xs ++ e ∷ ys) u ≡ xs ++ (e.0, u) ∷ ys
  written_by k u [] ys e a h = ap (λ o. cond (is_eq o) ((e.0, u) ∷ ys) (e ∷ Written k ys u)) h
  written_by k u (x ∷ xs) ys e a h = grind (arith, is_eq, written_by k u xs ys e a.1 h)

  -- the entry with another value is that value written at its key
  pub written_entry : (k : K) (u : V) (xs ys : List (K × V)) (e : K × V) → Sorted (xs ++ e ∷ ys) → cmp k e.0 ≡ Equal
      → Written k (xs ++ e ∷ ys) u ≡ xs ++ (e.0, u) ∷ ys
  written_entry k u xs ys e s h = written_by k u xs ys e (below_entry k xs ys e s h) h

  keys_written : (u : V) (xs ys : List (K × V)) (e : K × V) → keys_of (xs ++ e ∷ ys) ≡ keys_of (xs ++ (e.0, u) ∷ ys)
  keys_written u [] ys e = refl
  keys_written u (x ∷ xs) ys e = ap (λ ks. x.0 ∷ ks) (keys_written u xs ys e)

  pub sorted_written : (u : V) (xs ys : List (K × V)) (e : K × V) → Sorted (xs ++ e ∷ ys) → Sorted (xs ++ (e.0, u) ∷ ys)
  sorted_written u xs ys e s = subst (IsStrictlySortedBy cmp) (keys_written u xs ys e) s

  -- ---- halving

  -- where the key is below an entry, it is below all from that entry on
  pub above_from : (k : K) (es : List (K × V)) (n : ℕ) (e : K × V) → Sorted es → drop n es ≡ e ∷ drop (n + 1) es
      → cmp k e.0 ≡ Less → AllAbove cmp k (drop n es)
  above_from k es n e s is h = grind (arith, sorted_back, take-append-drop n es, above_first)

  -- where the key is above an entry, it is above all up to that entry
  pub below_upto : (k : K) (es : List (K × V)) (n : ℕ) (e : K × V) → Sorted es → drop n es ≡ e ∷ drop (n + 1) es
      → cmp k e.0 ≡ Greater → AllBelow cmp k (take (n + 1) es)
  below_upto k es n e s is h =
      let whole : es ≡ take n es ++ e ∷ drop (n + 1) es = sym (take-append-drop n es) ∙ ap (λ xs. take n es ++ xs) is in
      let front = below_first k (take n es) (drop (n + 1) es) e (subst (λ xs. Sorted xs) whole s) (greater_not (cmp k e.0) h) in
      subst (AllBelow cmp k) (sym (take-add n 1 es ∙ ap (λ xs. take n es ++ take 1 xs) is))
      (below_both k (take n es) (e ∷ []) front (h, tt))

  -- the entries from a block on, by its first
  from_block : (bs : List (List (K × V))) (n : ℕ) (e : K × V) → n < length bs → block_at bs n ≡ e ∷ drop 1 (block_at bs n)
      → entries_of (drop n bs) ≡ e ∷ (drop 1 (block_at bs n) ++ entries_of (drop (n + 1) bs))
  from_block bs n e l is = entries_of-from n bs l ∙ ap (λ b. b ++ entries_of (drop (n + 1) bs)) is

  pub above_from_block : (k : K) (bs : List (List (K × V))) (n : ℕ) (e : K × V) → Sorted (entries_of bs) → n < length bs
      → block_at bs n ≡ e ∷ drop 1 (block_at bs n) → cmp k e.0 ≡ Less → AllAbove cmp k (entries_of (drop n bs))
  above_from_block k bs n e s l is h = grind (arith, from_block bs n e l is, sorted_back, entries_of-cut n bs, above_first)

  pub below_upto_block : (k : K) (bs : List (List (K × V))) (n : ℕ) (e : K × V) → Sorted (entries_of bs) → n < length bs
      → block_at bs n ≡ e ∷ drop 1 (block_at bs n) → (cmp k e.0 ≡ Less → ⊥) → AllBelow cmp k (entries_of (take n bs))
  below_upto_block k bs n e s l is h = grind (arith, from_block bs n e l is, below_first, entries_of-cut n bs)

  -- one block on
  pub above_later : (k : K) (bs : List (List (K × V))) (n : ℕ) → AllAbove cmp k (entries_of (drop n bs))
      → AllAbove cmp k (entries_of (drop (n - 1 + 1) bs))
  above_later k [] zero a = a
  above_later k (b ∷ bs) zero a = above_back k b (entries_of bs) a
  above_later k bs (suc n) a = let same : suc n ≡ suc n - 1 + 1 = omega arith in subst (λ m. AllAbove cmp k (entries_of (drop m bs))) same a

  -- ---- a spot by its block and its offset

  pub sorted_block : (bs : List (List (K × V))) (n : ℕ) (read shown : List (K × V)) → Sorted (entries_of bs)
      → n < length bs → read ≡ get_or bs n read → shown ≡ read → Sorted shown
  sorted_block bs n read shown s l is_read is_shown =
      grind (arith, get_or_read bs n read l is_read [], entries_of-cut n bs, entries_of-from n bs l, sorted_front, sorted_back)

  pub IsAt-offset : (bs zs : List (List (K × V))) (k : K) (s : Spot) (read shown : List (K × V)) → zs ≡ bs
      → s.block < length zs → read ≡ get_or bs s.block read → shown ≡ read → IsOffset cmp shown k s.offset
      → IsAt cmp bs k s
  IsAt-offset bs zs k s read shown same l is_read is_shown found =
      let l' : s.block < length bs = omega (arith, l, ap length same) in
      let at : shown ≡ block_at bs s.block = is_shown ∙ get_or_read bs s.block read l' is_read [] in
      record {
        spot = (l', omega (arith, found.within, ap length at));
        entry = found.entry;
        is = ap (drop s.offset) (sym at) ∙ found.is ∙ ap (λ es. found.entry ∷ drop (s.offset + 1) es) at;
        same = found.same;
      }

  pub IsFree-offset : (bs zs : List (List (K × V))) (k : K) (s : Spot) (read shown : List (K × V)) → zs ≡ bs
      → s.block < length zs → read ≡ get_or bs s.block read → shown ≡ read
      → AllBelow cmp k (entries_of (take s.block zs)) → AllAbove cmp k (entries_of (drop (s.block + 1) zs))
      → (s.offset ≤ length shown) × AllBelow cmp k (take s.offset shown) × AllAbove cmp k (drop s.offset shown) → IsFree cmp bs k s
  IsFree-offset bs zs k s read shown same l is_read is_shown below above free = grind (arith, get_or_read, below_both, above_both)
  -- ---- the entries around a spot

pub middle_below : (low high : ℕ) → low < high → (low ≤ low + (high - low) / 2) × (low + (high - low) / 2 < high)
middle_below low high l = (omega arith, omega (arith, l))

is_less : (o : Ordering) → is_lt o ≡ true → o ≡ Less
is_less Less h = refl
is_less Equal h = absurd (cc)
is_less Greater h = absurd (cc)

pub Less-from : (b : Bool) (o : Ordering) → b ≡ is_lt o → b ≡ true → o ≡ Less
Less-from b o is t = is_less o (sym is ∙ t)

pub not_Less-from : (b : Bool) (o : Ordering) → b ≡ is_lt o → b ≡ false → o ≡ Less → ⊥
not_Less-from b o is f less = true≢false (sym (ap is_lt less) ∙ sym is ∙ f)

pub is_at : {K V : Type 0} (cmp : K → K → Ordering) (bs : List (List (K × V))) (k : K) (s : Spot) (e : K × V) → IsSpot bs s → IsEntry bs s e
    → cmp k e.0 ≡ Equal → IsAt cmp bs k s
is_at cmp bs k s e spot is same = record { spot = spot; entry = e; is = is; same = same }

-- WHAT FUNCTIONS ARE PROVED BY

pub ruleset for_find = (sorted_block, IsAt-offset, IsFree-offset)
