-- Rows in key order: those of one record set are consecutive, and a binary search finds them.
use Rattle.std.proofs.Common.{◌≡◌, refl, sym, ◌∙◌, ap, subst, ℕ, zero, suc, ◌+◌, ◌-◌, ◌<◌, ◌≤◌, ◌⊎◌, inl, inr, Bool, true}
use Rattle.std.proofs.Common.{false, cond, List, [], ◌∷◌, length, map, take, drop, get_or, arith}
use Rattle.std.proofs.lemmas.{List.{get_or-drop, length-drop, take_all}, Bool.{false≢true}, Cmp.{tied_itself}, Simd.{map-map}}
use Rattle.std.specs.{List.{AllByRecursion, AllWithin, filter}, List.Sorted.{IsNonDecreasingBy, IsStrictlySortedBy, IsPartitionPoint, IsPartitionedBy}}
use Rattle.std.specs.{Cmp.{IsTotalOrder}, Ordering.{is_eq, is_lt, is_le, ordering_index, ordering_then}, declared.cmp.Ordering.{Ordering}}
use Rattle.std.specs.declared.cmp.Ordering.TheVariants.{Less, Equal, Greater}
use Rattle.mdns_message.specs.{declared.key.Key.{Key}, RecordSet.{RecordSet}, Resource.{set_key_cmp, key_cmp}}
use Rattle.mdns_message.specs.laws.Resource.{set_key_cmp-total}
use Rattle.mdns_join.specs.declared.latest.Latest.{Latest}
use Rattle.mdns_cache.specs.Live.{key_of_last}
use Rattle.mdns_browse.specs.Services.{rows_of_set, set_for}

lt_is : (o : Ordering) → is_lt o ≡ true → o ≡ Less
lt_is Less e = refl
lt_is Equal e = absurd (false≢true e)
lt_is Greater e = absurd (false≢true e)

le_is : (o : Ordering) → is_le o ≡ true → (o ≡ Less) ⊎ (o ≡ Equal)
le_is Less e = inl refl
le_is Equal e = inr refl
le_is Greater e = absurd (false≢true e)

lt-not_eq : (o : Ordering) → is_lt o ≡ true → is_eq o ≡ false
lt-not_eq Less e = refl
lt-not_eq Equal e = absurd (false≢true e)
lt-not_eq Greater e = refl

above-not_eq : (o : Ordering) → is_le o ≡ false → is_eq o ≡ false
above-not_eq Less e = absurd (false≢true (sym e))
above-not_eq Equal e = absurd (false≢true (sym e))
above-not_eq Greater e = refl

between-eq : (o : Ordering) → is_lt o ≡ false → is_le o ≡ true → is_eq o ≡ true
between-eq Less not le = absurd (false≢true (sym not))
between-eq Equal not le = refl
between-eq Greater not le = absurd (false≢true le)

pub eq_is : (o : Ordering) → is_eq o ≡ true → o ≡ Equal
eq_is Less e = absurd (false≢true e)
eq_is Equal e = refl
eq_is Greater e = absurd (false≢true e)

-- a key that isn't above another is below each key that the other is below
module _ {K : Type 0} (R : K → K → Ordering) (o : IsTotalOrder R) where
  abbrev pub NotAbove : K → K → Type 0
  NotAbove s t = (R s t ≡ Less) ⊎ (R s t ≡ Equal)

  pub below-before : (s t k : K) → NotAbove s t → is_lt (R t k) ≡ true → is_lt (R s k) ≡ true
  below-before s t k (inl less) below = ap is_lt (o.trans s t k less (lt_is (R t k) below))
  below-before s t k (inr same) below = ap is_lt (o.congr s t k same) ∙ below

  pub not_above-before : (s t k : K) → NotAbove s t → is_le (R t k) ≡ true → is_le (R s k) ≡ true
  not_above-before s t k (inr same) le = ap is_le (o.congr s t k same) ∙ le
  not_above-before s t k (inl less) le = grind (arith, le_is)

first_part : (o p : Ordering) → ordering_then o p ≡ Less → (o ≡ Less) ⊎ (o ≡ Equal)
first_part Less p e = inl refl
first_part Equal p e = inr refl
first_part Greater p e = absurd (let no : Greater ≡ Less = e in cc)

all_at : {X K : Type 0} (P : K → Type 0) (key : X → K) (xs : List X) (k : ℕ) (d : X) → k < length xs
    → AllByRecursion P (map key xs) → P (key (get_or xs k d))
all_at P key [] k d within all = absurd (omega arith)
all_at P key (x ∷ xs) zero d within all = all.0
all_at P key (x ∷ xs) (suc k) d within all = all_at P key xs k d (omega arith) all.1

-- a filter leaves elements that stand together: `count` of them from `first` on
module _ {X : Type 0} (test : X → Bool) where
  filter-from : (xs : List X) (first : ℕ) → AllWithin (λ x. test x ≡ false) xs 0 first → filter test xs ≡ filter test (drop first xs)
  filter-from xs zero none = refl
  filter-from [] (suc first) none = refl
  filter-from (x ∷ xs) (suc first) none =
      ap (λ passes. cond passes (x ∷ filter test xs) (filter test xs)) (none 0 x (omega arith) (omega arith))
      ∙ filter-from xs first (λ k d low high. none (suc k) d (omega arith) (omega arith))

  filter-upto : (xs : List X) (count : ℕ) → count ≤ length xs → AllWithin (λ x. test x ≡ true) xs 0 count
      → AllWithin (λ x. test x ≡ false) xs count (length xs) → filter test xs ≡ take count xs
  filter-upto [] zero within all none = refl
  filter-upto [] (suc count) within all none = absurd (omega arith)
  filter-upto (x ∷ xs) zero within all none =
      ap (λ passes. cond passes (x ∷ filter test xs) (filter test xs)) (none 0 x (omega arith) (omega arith))
      ∙ filter-upto xs zero (omega arith) (λ k d low high. absurd (omega arith))
      (λ k d low high. none (suc k) d (omega arith) (omega arith))
  filter-upto (x ∷ xs) (suc count) within all none =
      ap (λ passes. cond passes (x ∷ filter test xs) (filter test xs)) (all 0 x (omega arith) (omega arith))
      ∙ ap (λ rest. x ∷ rest)
      (filter-upto xs count (omega arith) (λ k d low high. all (suc k) d (omega arith) (omega arith))
      (λ k d low high. none (suc k) d (omega arith) (omega arith)))

module _ {X : Type 0} (key : X → Key) (set : RecordSet) where
  -- how a row's record set compares with the one that is looked for
  abbrev pub against : X → Ordering
  against x = set_key_cmp (key x).set set

  -- of two rows in key order the set of the first isn't above that of the second
  sets-ordered : (xs : List X) (i j : ℕ) (d : X) → i ≤ j → j < length xs → IsStrictlySortedBy key_cmp (map key xs)
      → NotAbove set_key_cmp set_key_cmp-total (key (get_or xs i d)).set (key (get_or xs j d)).set
  unfolding IsStrictlySortedBy
  sets-ordered [] i j d le lt sorted = absurd (omega arith)
  sets-ordered (x ∷ xs) zero zero d le lt sorted = inr (tied_itself set_key_cmp-total (key x).set)
  sets-ordered (x ∷ xs) zero (suc j) d le lt sorted =
      first_part _ _ (all_at (λ k. key_cmp (key x) k ≡ Less) key xs j d (omega arith) sorted.0)
  sets-ordered (x ∷ xs) (suc i) zero d le lt sorted = absurd (omega arith)
  sets-ordered (x ∷ xs) (suc i) (suc j) d le lt sorted = sets-ordered xs i j d (omega arith) (omega arith) sorted.1

  pub parted_below : (xs : List X) → IsStrictlySortedBy key_cmp (map key xs) → IsPartitionedBy (λ x. is_lt (against x)) xs
  parted_below xs sorted i j d le lt below = grind (arith, below-before, set_key_cmp-total, sets-ordered)

  parted_upto : (xs : List X) → IsStrictlySortedBy key_cmp (map key xs) → IsPartitionedBy (λ x. is_le (against x)) xs
  parted_upto xs sorted i j d le lt below = grind (arith, not_above-before, set_key_cmp-total, sets-ordered)

  pub parted_after : (xs ys : List X) (first : ℕ) → ys ≡ drop first xs → IsStrictlySortedBy key_cmp (map key xs)
      → IsPartitionedBy (λ x. is_le (against x)) ys
  parted_after xs ys first rest sorted = grind (arith, length-drop, get_or-drop, parted_upto)

-- the rows that are equal are those between the two places that the searches find
module _ {X : Type 0} (ord : X → Ordering) where
  pub filter-rest : (xs ys : List X) (first count : ℕ) → ys ≡ drop first xs → count ≤ length ys
      → IsPartitionPoint (λ x. is_lt (ord x) ≡ true) (λ x. is_lt (ord x) ≡ false) xs first
      → IsPartitionPoint (λ x. is_le (ord x) ≡ true) (λ x. is_le (ord x) ≡ false) ys count
      → filter (λ x. is_eq (ord x)) xs ≡ take count ys
  filter-rest xs ys first count rest within below upto =
      filter-from (λ x. is_eq (ord x)) xs first (λ k d low high. lt-not_eq _ (below.0 k d low high))
      ∙ ap (filter (λ x. is_eq (ord x))) (sym rest)
      ∙ filter-upto (λ x. is_eq (ord x)) ys count within
      (λ k d low high. between-eq _ (not_below k d (omega arith)) (upto.0 k d low high))
      (λ k d low high. above-not_eq _ (upto.1 k d low high))
    where
      not_below : (k : ℕ) (d : X) → k < length ys → is_lt (ord (get_or ys k d)) ≡ false
      not_below k d lt =
          subst (λ zs. is_lt (ord (get_or zs k d)) ≡ false) (sym rest)
          (subst (λ x. is_lt (ord x) ≡ false) (sym (get_or-drop first xs k d))
          (below.1 (first + k) d (omega arith) (omega (arith, lt, ap length rest, length-drop first xs))))

-- what comes before what isn't above isn't above
lower-lt : (o p : Ordering) → ordering_index o ≤ ordering_index p → is_lt p ≡ true → is_lt o ≡ true
lower-lt Less p le lt = refl
lower-lt Equal Less le lt = absurd (omega (arith, le))
lower-lt Greater Less le lt = absurd (omega (arith, le))
lower-lt o Equal le lt = absurd (false≢true lt)
lower-lt o Greater le lt = absurd (false≢true lt)

lower-le : (o p : Ordering) → ordering_index o ≤ ordering_index p → is_le p ≡ true → is_le o ≡ true
lower-le Less p le lt = refl
lower-le Equal p le lt = refl
lower-le Greater Less le lt = absurd (omega (arith, le))
lower-le Greater Equal le lt = absurd (omega (arith, le))
lower-le Greater Greater le lt = lt

module _ {X : Type 0} (ord : X → Ordering) (xs : List X) (rises : IsNonDecreasingBy (λ x. ordering_index (ord x)) xs) where
  pub rising-lt : IsPartitionedBy (λ x. is_lt (ord x)) xs
  rising-lt i j d le lt below = lower-lt _ _ (rises i j d le lt) below

  pub rising-le : IsPartitionedBy (λ x. is_le (ord x)) xs
  rising-le i j d le lt below = lower-le _ _ (rises i j d le lt) below

pub filter-map : {X Y : Type 0} (f : X → Y) (test : Y → Bool) (xs : List X) → filter test (map f xs) ≡ map f (filter (λ x. test (f x)) xs)
filter-map f test [] = refl
filter-map f test (x ∷ xs) = grind (arith, filter-map f test xs)

-- what is found in the rows is the record set among their values
pub set-found : {X : Type 0} (f : X → Latest) (owner : List ℕ) (number : ℕ) (xs found : List X)
    → filter (λ x. is_eq (against (λ x. key_of_last (f x)) (set_for owner number) x)) xs ≡ found
    → map f found ≡ rows_of_set (map f xs) owner number
set-found f owner number xs found same = grind (arith, filter-map)

-- the rest of a list, taken whole
pub after_whole : {X : Type 0} (xs : List X) (first : ℕ) → take (length xs - first) (drop first xs) ≡ drop first xs
after_whole xs first = take_all (length xs - first) (drop first xs) (omega (arith, length-drop first xs))

-- the order of the records that rows show, as an order of the rows
pub ascending_seen : {X : Type 0} (f : X → Latest) (rows : List X) → IsStrictlySortedBy key_cmp (map key_of_last (map f rows))
    → IsStrictlySortedBy key_cmp (map (λ x. key_of_last (f x)) rows)
ascending_seen f rows sorted = subst (IsStrictlySortedBy key_cmp) (map-map key_of_last f rows) sorted
