-- Entries by their places.
use Rattle.std.proofs.lemmas.{Grind.{common_steps}, List.{drop_more, drop_at, take_at, get_or_default, get_or_read, get_or-set_other}}
use Rattle.std.proofs.{lemmas.List.{get_or-set_same, length-set}, Common.{◌≡◌, ◌≢◌, ℕ, zero, suc, ◌+◌, ◌<◌}}
use Rattle.std.proofs.Common.{◌≤◌, List, [], ◌∷◌, ◌++◌, length, get_or, take, drop, set, refl, sym, ap, ◌∙◌, subst}
use Rattle.std.proofs.Common.{arith, append_assoc, length-append, Ordering, Less, Equal, Greater}
use Rattle.std.specs.{List.{AllByRecursion}, Map.{keys_of}, Cmp.{IsTotalOrder}, List.Sorted.{IsStrictlySortedBy}}
use Rattle.std.specs.Ordering.{ordering_reverse}
use Rattle.join_map.specs.Blocks.{AllAbove, AllBelow, AllFilled, AllWithin, ArePlaces, IsEntry, IsGap, IsRewritten, IsSpot, block_at}
use Rattle.join_map.specs.{Blocks.{before, after, entries_of, picked, rows}, laws.Entries.{sorted_above}, declared.blocks.Spot.{Spot}}
use Rattle.join_map.proofs.{BlockLemmas.{entries_of-gap, entries_of-split, length-inserted}, KeyLemmas.{below_first, sorted_back}}

pub within-front : (n : ℕ) (ps qs : List ℕ) → AllWithin n (ps ++ qs) → AllWithin n ps
within-front n [] qs w = tt
within-front n (p ∷ ps) qs w = (w.0, within-front n ps qs w.1)

pub within-back : (n : ℕ) (ps qs : List ℕ) → AllWithin n (ps ++ qs) → AllWithin n qs
within-back n [] qs w = w
within-back n (p ∷ ps) qs w = within-back n ps qs w.1

pub within-both : (n : ℕ) (ps qs : List ℕ) → AllWithin n ps → AllWithin n qs → AllWithin n (ps ++ qs)
within-both n [] qs v w = w
within-both n (p ∷ ps) qs v w = (v.0, within-both n ps qs v.1 w)

pub within-more : (m n : ℕ) (ps : List ℕ) → m ≤ n → AllWithin m ps → AllWithin n ps
within-more m n [] l w = tt
within-more m n (p ∷ ps) l w = (omega (arith, l, w.0), within-more m n ps l w.1)

pub within-drop : (n k : ℕ) (ps : List ℕ) → AllWithin n ps → AllWithin n (drop k ps)
within-drop n zero ps w = w
within-drop n (suc k) [] w = tt
within-drop n (suc k) (p ∷ ps) w = within-drop n k ps w.1

-- each block's places are among all
pub within-block : (n : ℕ) (bs : List (List ℕ)) (k : ℕ) → AllWithin n (entries_of bs) → AllWithin n (block_at bs k)
within-block n [] zero w = tt
within-block n [] (suc k) w = tt
within-block n (b ∷ bs) zero w = within-front n b (entries_of bs) w
within-block n (b ∷ bs) (suc k) w = within-block n bs k (within-back n b (entries_of bs) w)

module _ {E : Type 0} where
  one_at : (es : List E) (p : ℕ) (e : E) → p < length es → take 1 (drop p es) ≡ get_or es p e ∷ []
  one_at es p e l = ap (take 1) (drop_more es p e l)

  length-one : (es : List E) (p : ℕ) → p < length es → length (take 1 (drop p es)) ≡ 1
  length-one [] p l = absurd (omega (arith, l))
  length-one (e ∷ es) p l = ap length (one_at (e ∷ es) p e l)

  pub picked-append : (es : List E) (ps qs : List ℕ) → picked es (ps ++ qs) ≡ picked es ps ++ picked es qs
  picked-append es [] qs = refl
  picked-append es (p ∷ ps) qs = ap (λ xs. take 1 (drop p es) ++ xs) (picked-append es ps qs)
      ∙ sym (append_assoc (take 1 (drop p es)) (picked es ps) (picked es qs))

  pub length-picked : (es : List E) (ps : List ℕ) → AllWithin (length es) ps → length (picked es ps) ≡ length ps
  length-picked es [] w = refl
  length-picked es (p ∷ ps) w = grind (arith, length-append, length-one, length-picked es ps w.1)

  pub rows_entries : (es : List E) (bs : List (List ℕ)) → entries_of (rows es bs) ≡ picked es (entries_of bs)
  rows_entries es [] = refl
  rows_entries es (b ∷ bs) = ap (λ xs. picked es b ++ xs) (rows_entries es bs) ∙ sym (picked-append es b (entries_of bs))

  pub length-rows : (es : List E) (bs : List (List ℕ)) → length (rows es bs) ≡ length bs
  length-rows es [] = refl
  length-rows es (b ∷ bs) = ap suc (length-rows es bs)

  pub rows-at : (es : List E) (bs : List (List ℕ)) (n : ℕ) → block_at (rows es bs) n ≡ picked es (block_at bs n)
  rows-at es [] zero = refl
  rows-at es [] (suc n) = refl
  rows-at es (b ∷ bs) zero = refl
  rows-at es (b ∷ bs) (suc n) = rows-at es bs n

  pub rows-take : (es : List E) (bs : List (List ℕ)) (n : ℕ) → take n (rows es bs) ≡ rows es (take n bs)
  rows-take es bs zero = refl
  rows-take es [] (suc n) = refl
  rows-take es (b ∷ bs) (suc n) = ap (λ xs. picked es b ∷ xs) (rows-take es bs n)

  pub rows-drop : (es : List E) (bs : List (List ℕ)) (n : ℕ) → drop n (rows es bs) ≡ rows es (drop n bs)
  rows-drop es bs zero = refl
  rows-drop es [] (suc n) = refl
  rows-drop es (b ∷ bs) (suc n) = rows-drop es bs n

  take_one : (xs ys : List E) (x : E) (n : ℕ) → xs ≡ x ∷ [] → take (suc n) (xs ++ ys) ≡ xs ++ take n ys
  take_one xs ys x n is = ap (λ zs. take (suc n) (zs ++ ys)) is ∙ ap (λ zs. zs ++ take n ys) (sym is)

  drop_one : (xs ys : List E) (x : E) (n : ℕ) → xs ≡ x ∷ [] → drop (suc n) (xs ++ ys) ≡ drop n ys
  drop_one xs ys x n is = ap (λ zs. drop (suc n) (zs ++ ys)) is

  pub picked-take : (es : List E) (ps : List ℕ) (n : ℕ) → AllWithin (length es) ps → take n (picked es ps) ≡ picked es (take n ps)
  picked-take es ps zero w = refl
  picked-take es [] (suc n) w = refl
  picked-take [] (p ∷ ps) (suc n) w = absurd (omega (arith, w.0))
  picked-take (e ∷ es) (p ∷ ps) (suc n) w = grind (arith, common_steps, take_one, one_at, picked-take (e ∷ es) ps n w.1)

  pub picked-drop : (es : List E) (ps : List ℕ) (n : ℕ) → AllWithin (length es) ps → drop n (picked es ps) ≡ picked es (drop n ps)
  picked-drop es ps zero w = refl
  picked-drop es [] (suc n) w = refl
  picked-drop [] (p ∷ ps) (suc n) w = absurd (omega (arith, w.0))
  picked-drop (e ∷ es) (p ∷ ps) (suc n) w = grind (arith, common_steps, drop_one, one_at, picked-drop (e ∷ es) ps n w.1)

  -- the entry at a place in a list of places
  pub picked-at : (es : List E) (ps : List ℕ) (o p : ℕ) (e : E) → AllWithin (length es) ps
      → drop o ps ≡ p ∷ drop (o + 1) ps → e ≡ get_or es p e → drop o (picked es ps) ≡ e ∷ drop (o + 1) (picked es ps)
  picked-at es ps o p e w at is = grind (arith, within-drop, picked-drop, one_at)

  pub before-rows : (es : List E) (bs : List (List ℕ)) (s : Spot) → AllWithin (length es) (block_at bs s.block)
      → before (rows es bs) s ≡ picked es (before bs s)
  before-rows es bs s w = grind (arith, rows-take, rows-at, rows_entries, picked-take, picked-append)

  pub after-rows : (es : List E) (bs : List (List ℕ)) (s : Spot) → AllWithin (length es) (block_at bs s.block)
      → after (rows es bs) s ≡ picked es (after bs s)
  after-rows es bs s w = grind (arith, rows-drop, rows-at, rows_entries, picked-drop, picked-append)

  pub filled-rows : (es : List E) (bs : List (List ℕ)) → AllFilled bs → AllWithin (length es) (entries_of bs) → AllFilled (rows es bs)
  filled-rows es [] f w = tt
  filled-rows es (b ∷ bs) f w =
      grind (arith, length-picked, within-front, within-back, filled-rows es bs f.1 (within-back (length es) b (entries_of bs) w))

  -- ---- one entry more

  pub picked-last : (es : List E) (e : E) → take 1 (drop (length es) (es ++ e ∷ [])) ≡ e ∷ []
  picked-last es e = ap (take 1) (drop_at es (e ∷ []) (length es) refl)

  get_or-front : (es : List E) (e d : E) (p : ℕ) → p < length es → get_or (es ++ e ∷ []) p d ≡ get_or es p d
  get_or-front [] e d p l = absurd (omega (arith, l))
  get_or-front (x ∷ es) e d zero l = refl
  get_or-front (x ∷ es) e d (suc p) l = get_or-front es e d p (omega (arith, l))

  pub picked-more : (es : List E) (e : E) (ps : List ℕ) → AllWithin (length es) ps → picked (es ++ e ∷ []) ps ≡ picked es ps
  picked-more es e [] w = refl
  picked-more es e (p ∷ ps) w =
      grind (arith, length-append es (e ∷ []), one_at, get_or-front es e e p w.0, one_at es p e w.0, picked-more es e ps w.1)

-- ---- a value rewritten at its place

greater_apart : (o : Ordering) → o ≡ Greater → o ≡ Equal → ⊥
greater_apart o g e = absurd (cc)

less_apart : (o : Ordering) → o ≡ Less → o ≡ Equal → ⊥
less_apart o l e = absurd (cc)

module _ {K V : Type 0} where
  -- no key of the entries is k
  abbrev pub AllApart : (K → K → Ordering) → K → List (K × V) → Type 0
  AllApart cmp k es = AllByRecursion (λ y. cmp k y ≡ Equal → ⊥) (keys_of es)

  pub apart-below : (cmp : K → K → Ordering) (k : K) (es : List (K × V)) → AllBelow cmp k es → AllApart cmp k es
  apart-below cmp k [] a = tt
  apart-below cmp k (e ∷ es) a = (greater_apart (cmp k e.0) a.0, apart-below cmp k es a.1)

  pub apart-above : (cmp : K → K → Ordering) (k : K) (es : List (K × V)) → AllAbove cmp k es → AllApart cmp k es
  apart-above cmp k [] a = tt
  apart-above cmp k (e ∷ es) a = (less_apart (cmp k e.0) a.0, apart-above cmp k es a.1)

  -- entries whose keys aren't that of the entry at p stay where that one is rewritten
  pub picked-set : (cmp : K → K → Ordering) (same : (k : K) → cmp k k ≡ Equal) (es : List (K × V)) (p : ℕ) (e x : K
      × V) (ps : List ℕ) → AllWithin (length es) ps → e ≡ get_or es p e → AllApart cmp e.0 (picked es ps)
      → picked (set es p x) ps ≡ picked es ps
  picked-set cmp same es p e x [] w is a = refl
  picked-set cmp same es p e x (q ∷ ps) w is a =
      let shown : take 1 (drop q es) ≡ get_or es q e ∷ [] = one_at es q e w.0 in
      let apart : AllApart cmp e.0 (get_or es q e ∷ picked es ps) = subst (λ xs. AllApart cmp e.0 (xs ++ picked es ps)) shown a in
      let other : q ≢ p = λ h. apart.0 (ap (λ n. cmp e.0 (get_or es n e).0) h ∙ ap (λ (y : K × V). cmp e.0 y.0) (sym is) ∙ same e.0) in
      let l : q < length (set es p x) = omega (arith, w.0, length-set es p x) in
      ap (λ xs. xs ++ picked (set es p x) ps) (one_at (set es p x) q e l ∙ ap (λ y. y ∷ []) (get_or-set_other es p q x e other) ∙ sym shown)
      ∙ ap (λ xs. take 1 (drop q es) ++ xs) (picked-set cmp same es p e x ps w.1 is apart.1)

  -- ---- spots of the rows

  pub spot-rows : (es : List (K × V)) (bs : List (List ℕ)) (s : Spot) → ArePlaces es bs → IsSpot (rows es bs) s
      → (s.block < length bs) × (s.offset < length (block_at bs s.block))
  spot-rows es bs s a i = grind (
    arith,
    length-rows es bs,
    rows-at es bs s.block,
    length-picked es (block_at bs s.block) (within-block (length es) bs s.block a.within),
    within-block (length es) bs s.block a.within,
  )

  -- the place that was read at a spot
  pub place_there : (es : List (K × V)) (bs : List (List ℕ)) (rs : List (List (K × V))) (s : Spot) (read shown : List ℕ)
      → ArePlaces es bs → rows es bs ≡ rs → IsSpot rs s → read ≡ get_or bs s.block read → shown ≡ read
      → (s.block < length bs) × (s.offset < length shown) × (get_or shown s.offset 0 < length es)
  place_there es bs rs s read shown a is spot is_read is_shown = grind (
    arith,
    spot-rows es bs s a,
    get_or_read bs s.block read,
    drop_more shown s.offset 0,
    within-drop (length es) s.offset (block_at bs s.block) (within-block (length es) bs s.block a.within),
  )

  pub count-rows : (es : List (K × V)) (bs : List (List ℕ)) (n : ℕ) → ArePlaces es bs
      → length (block_at (rows es bs) n) ≡ length (block_at bs n)
  count-rows es bs n a = ap length (rows-at es bs n) ∙ length-picked es (block_at bs n) (within-block (length es) bs n a.within)

  pub length_all : (es : List (K × V)) (bs : List (List ℕ)) → ArePlaces es bs → length (entries_of (rows es bs)) ≡ length es
  length_all es bs a = ap length (rows_entries es bs) ∙ length-picked es (entries_of bs) a.within ∙ sym a.all

  pub IsEntry-rows : (es : List (K × V)) (bs : List (List ℕ)) (s : Spot) (p : ℕ) (e : K × V) (read shown : List ℕ)
      → ArePlaces es bs → s.block < length bs → read ≡ get_or bs s.block read → shown ≡ read → s.offset < length shown
      → p ≡ get_or shown s.offset p → e ≡ get_or es p e
      → IsEntry (rows es bs) s e
  IsEntry-rows es bs s p e read shown a l is_read is_shown o is is_e =
      let at : shown ≡ block_at bs s.block = is_shown ∙ get_or_read bs s.block read l is_read [] in
      let w : AllWithin (length es) shown = subst (AllWithin (length es)) (sym at) (within-block (length es) bs s.block a.within) in
      let first = drop_more shown s.offset p o ∙ ap (λ q. q ∷ drop (s.offset + 1) shown) (sym is) in
      subst (λ xs. drop s.offset xs ≡ e ∷ drop (s.offset + 1) xs) (ap (picked es) at ∙ sym (rows-at es bs s.block))
      (picked-at es shown s.offset p e w first is_e)

  -- the block that was read is the one in the rows
  pub row_is : (bs : List (List (K × V))) (n : ℕ) → n < length bs → block_at bs n ≡ get_or bs n (block_at bs n)
  row_is bs n l = get_or_default bs n [] (block_at bs n) l

-- ---- the entry at a spot rewritten

self_equal : (o : Ordering) → o ≡ ordering_reverse o → o ≡ Equal
self_equal Less h = absurd (cc)
self_equal Equal h = refl
self_equal Greater h = absurd (cc)

equal_not_less : (o : Ordering) → o ≡ Equal → o ≡ Less → ⊥
equal_not_less o e l = absurd (cc)

module _ {K : Type 0} {cmp : K → K → Ordering} (order : IsTotalOrder cmp) where
  same_key : (k : K) → cmp k k ≡ Equal
  same_key k = self_equal (cmp k k) (order.antisymm k k)

module _ {K V : Type 0} {cmp : K → K → Ordering} (order : IsTotalOrder cmp) (exact : (a b : K) → cmp a b ≡ Equal → a ≡ b) where
  pub IsRewritten-rows : (es : List (K × V)) (bs : List (List ℕ)) (s : Spot) (p : ℕ) (e : K × V) (u : V)
      (read shown : List ℕ) → ArePlaces es bs → IsStrictlySortedBy cmp (keys_of (entries_of (rows es bs)))
      → s.block < length bs → read ≡ get_or bs s.block read → shown ≡ read → s.offset < length shown
      → p ≡ get_or shown s.offset p → e ≡ get_or es p e → IsRewritten (rows es bs) (rows (set es p (e.0, u)) bs) s e u
  IsRewritten-rows es bs s p e u read shown a sorted l is_read is_shown o is is_e =
      let n = s.block in
      let block = block_at bs n in
      let x : K × V = (e.0, u) in
      let fs = set es p x in
      let next : Spot = record { block = n; offset = s.offset + 1 } in
      let at : shown ≡ block = is_shown ∙ get_or_read bs n read l is_read [] in
      let first : drop s.offset block ≡ p ∷ drop (s.offset + 1) block =
      subst (λ ps. drop s.offset ps ≡ p ∷ drop (s.offset + 1) ps) at (drop_more shown s.offset p o
      ∙ ap (λ q. q ∷ drop (s.offset + 1) shown) (sym is)) in
      let w : AllWithin (length es) block = within-block (length es) bs n a.within in
      let same : length es ≡ length fs = sym (length-set es p x) in
      let v : AllWithin (length fs) block = subst (λ m. AllWithin m block) same w in
      let place : AllWithin (length es) (p ∷ drop (s.offset + 1) block) =
      subst (AllWithin (length es)) first (within-drop (length es) s.offset block w) in
      let entry = IsEntry-rows es bs s p e read shown a l is_read is_shown o is is_e in
      let rest = drop (s.offset + 1) (block_at (rows es bs) n) ++ entries_of (drop (n + 1) (rows es bs)) in
      let l' : n < length (rows es bs) = omega (arith, l, length-rows es bs) in
      let m' : n < length (rows fs bs) = omega (arith, l, length-rows fs bs) in
      let was : entries_of (rows es bs) ≡ before (rows es bs) s ++ e ∷ rest =
      entries_of-split (rows es bs) s l' ∙ ap (λ ys. before (rows es bs) s ++ (ys ++ entries_of (drop (n + 1) (rows es bs)))) entry in
      let ordered = subst (λ ys. IsStrictlySortedBy cmp (keys_of ys)) was sorted in
      let below = apart-below cmp e.0 (before (rows es bs) s)
      (below_first order exact e.0 (before (rows es bs) s) rest e ordered
      (equal_not_less (cmp e.0 e.0) (same_key order e.0))) in
      let above = apart-above cmp e.0 rest (sorted_above order exact e rest
      (sorted_back order exact (before (rows es bs) s) (e ∷ rest) ordered)) in
      let head = before-rows es bs s w in
      let tail : rest ≡ picked es (after bs next) = after-rows es bs next w in
      let kept_head : before (rows fs bs) s ≡ before (rows es bs) s =
      before-rows fs bs s v ∙ picked-set cmp (same_key order) es p e x (before bs s)
      (within-front (length es) (before bs s) (after bs s)
      (subst (AllWithin (length es)) (entries_of-split bs s l) a.within)) is_e
      (subst (AllApart cmp e.0) head below) ∙ sym head in
      let R = after bs next in
      let parts : after bs s ≡ p ∷ R = ap (λ ps. ps ++ entries_of (drop (n + 1) bs)) first in
      let ends : AllWithin (length es) (p ∷ R) =
      subst (AllWithin (length es)) parts (within-back (length es) (before bs s) (after bs s)
      (subst (AllWithin (length es)) (entries_of-split bs s l) a.within)) in
      let kept_tail : picked fs R ≡ rest = picked-set cmp (same_key order) es p e x R ends.1 is_e
      (subst (AllApart cmp e.0) tail above) ∙ sym tail in
      let new : take 1 (drop p fs) ≡ x ∷ [] = one_at fs p x (omega (arith, ends.0, same))
      ∙ ap (λ y. y ∷ []) (get_or-set_same es p x x ends.0) in
      record {
        is = entry;
        rest = rest;
        was = was;
        now = entries_of-split (rows fs bs) s m' ∙ ap (λ ys. ys ++ after (rows fs bs) s) kept_head
            ∙ ap (λ ys. before (rows es bs) s ++ ys) (after-rows fs bs s v ∙ ap (picked fs) parts
            ∙ ap (λ ys. ys ++ picked fs R) new ∙ ap (λ ys. x ∷ ys) kept_tail);
      }

-- ---- an entry inserted

module _ {K V : Type 0} where
  pub gap-rows : (es : List (K × V)) (bs : List (List ℕ)) (s : Spot) → ArePlaces es bs → IsGap (rows es bs) s → IsGap bs s
  gap-rows es bs s a g = grind (arith, length-rows, count-rows)

  pub ArePlaces-more : (es : List (K × V)) (bs cs : List (List ℕ)) (s : Spot) (e : K × V) (p : ℕ) → ArePlaces es bs
      → IsGap bs s → p ≡ length es → entries_of cs ≡ before bs s ++ p ∷ after bs s → AllFilled cs
      → ArePlaces (es ++ e ∷ []) cs
  ArePlaces-more es bs cs s e p a g last is filled = grind (
    arith,
    length-append es (e ∷ []),
    entries_of-gap bs s g,
    within-both,
    within-more,
    within-front,
    within-back,
    length-inserted bs s p (entries_of cs) g is,
  )

  pub inserted-rows : (es : List (K × V)) (bs cs : List (List ℕ)) (s : Spot) (e : K × V) (p : ℕ) → ArePlaces es bs
      → IsGap bs s → p ≡ length es → entries_of cs ≡ before bs s ++ p ∷ after bs s
      → entries_of (rows (es ++ e ∷ []) cs) ≡ before (rows es bs) s ++ e ∷ after (rows es bs) s
  inserted-rows es bs cs s e p a g last is =
      let fs = es ++ e ∷ [] in
      let w = within-block (length es) bs s.block a.within in
      let all = subst (AllWithin (length es)) (entries_of-gap bs s g) a.within in
      let one : take 1 (drop p fs) ≡ e ∷ [] = ap (λ n. take 1 (drop n fs)) last ∙ picked-last es e in
      rows_entries fs cs ∙ ap (picked fs) is ∙ picked-append fs (before bs s) (p ∷ after bs s)
      ∙ ap (λ xs. xs ++ picked fs (p ∷ after bs s))
      (picked-more es e (before bs s) (within-front (length es) (before bs s) (after bs s) all)
      ∙ sym (before-rows es bs s w))
      ∙ ap (λ xs. before (rows es bs) s ++ (xs ++ picked fs (after bs s))) one
      ∙ ap (λ xs. before (rows es bs) s ++ e ∷ xs)
      (picked-more es e (after bs s) (within-back (length es) (before bs s) (after bs s) all)
      ∙ sym (after-rows es bs s w))

  pub ArePlaces-kept : (es fs : List (K × V)) (bs cs : List (List ℕ)) → ArePlaces es bs → fs ≡ es
      → entries_of cs ≡ entries_of bs → AllFilled cs → ArePlaces fs cs
  ArePlaces-kept es fs bs cs a same is filled = grind arith

  pub ArePlaces-set : (es : List (K × V)) (bs : List (List ℕ)) (p : ℕ) (x : K × V) → ArePlaces es bs → ArePlaces (set es p x) bs
  ArePlaces-set es bs p x a = grind (arith, length-set)

  pub kept-rows : (es fs : List (K × V)) (bs cs : List (List ℕ)) → fs ≡ es → entries_of cs ≡ entries_of bs
      → entries_of (rows fs cs) ≡ entries_of (rows es bs)
  kept-rows es fs bs cs same is = ap (λ xs. entries_of (rows xs cs)) same ∙ rows_entries es cs ∙ ap (picked es) is
      ∙ sym (rows_entries es bs)

  pub untouched : (es fs gs : List (K × V)) (e : K × V) (n : ℕ) → fs ≡ es ++ e ∷ [] → gs ≡ take n fs → n ≡ length es → gs ≡ es
  untouched es fs gs e n pushed cut is = cut ∙ ap (take n) pushed ∙ take_at es (e ∷ []) n (sym is)

-- WHAT FUNCTIONS ARE PROVED BY

pub ruleset for_count = (count-rows, length-rows)

pub ruleset for_entry = (IsEntry-rows, spot-rows)

pub ruleset for_find = (length-rows, row_is)

pub ruleset for_insert = (ArePlaces-kept, ArePlaces-more, gap-rows, inserted-rows, kept-rows, untouched)

pub ruleset for_join_at = (ArePlaces-set, IsRewritten-rows, spot-rows)
