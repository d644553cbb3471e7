-- Laws of entries joined key by key. Two maps with the same value at each key are equal.
use Rattle.std.specs.Prelude.{◌≡◌, Bool, true, false, cond, List, [], ◌∷◌, Option, Some, None, refl}
use Rattle.std.specs.{declared.cmp.Ordering.{Ordering}, declared.cmp.Ordering.TheVariants.{Less, Equal, Greater}, Ordering.{match_ordering}}
use Rattle.std.specs.{Ordering.{is_eq, ordering_reverse}, BTreeMap.{insert_entry}, Cmp.{IsTotalOrder, tied_itself, alike_right}}
use Rattle.std.specs.{List.{AllByRecursion}, List.Sorted.{IsStrictlySortedBy}, Map.{keys_of, set_value}}
use Rattle.std.proofs.{Common.{sym, ap, ◌∙◌, subst, true≢false}, lemmas.Bool.{cond_both}}
use Rattle.join_map.specs.{Join.{JoinLaws}, Entries.{value_at, AllValid, IsJoinMap, put_entry, joined, joined_at, one_entry}}

-- ---- options

pub joined_at-None : {V : Type 0} (join : V → V → V) (o : Option V) → joined_at join o None ≡ o
joined_at-None join None = refl
joined_at-None join (Some v) = refl

-- the value, if there is one, is valid
abbrev pub ValidAt : {V : Type 0} → (V → Type 0) → Option V → Type 0
ValidAt Valid None = Unit {0}
ValidAt Valid (Some v) = Valid v

module _ {V : Type 0} {Valid : V → Type 0} {join : V → V → V} (laws : JoinLaws Valid join) where
  pub joined_at-same : (o : Option V) → ValidAt Valid o → joined_at join o o ≡ o
  joined_at-same None h = refl
  joined_at-same (Some v) h = ap Some (laws.idempotent v h)

  joined_at-comm : (o p : Option V) → ValidAt Valid o → ValidAt Valid p → joined_at join o p ≡ joined_at join p o
  joined_at-comm None None h k = refl
  joined_at-comm None (Some w) h k = refl
  joined_at-comm (Some v) None h k = refl
  joined_at-comm (Some v) (Some w) h k = ap Some (laws.commutative v w h k)

  joined_at-assoc : (o p q : Option V) → ValidAt Valid o → ValidAt Valid p → ValidAt Valid q
      → joined_at join (joined_at join o p) q ≡ joined_at join o (joined_at join p q)
  joined_at-assoc None p q h k l = refl
  joined_at-assoc (Some v) None q h k l = refl
  joined_at-assoc (Some v) (Some w) None h k l = refl
  joined_at-assoc (Some v) (Some w) (Some u) h k l = ap Some (laws.associative v w u h k l)

pub is_Equal : (o : Ordering) → is_eq o ≡ true → o ≡ Equal
is_Equal Less h = absurd (true≢false (sym h))
is_Equal Equal h = refl
is_Equal Greater h = absurd (true≢false (sym h))

pub sorted_none : {K : Type 0} (cmp : K → K → Ordering) → IsStrictlySortedBy cmp []
unfolding IsStrictlySortedBy
sorted_none cmp = tt

pub greater_back : {K : Type 0} {cmp : K → K → Ordering} → IsTotalOrder cmp → (k l : K) → cmp k l ≡ Greater → cmp l k ≡ Less
greater_back order k l g = order.antisymm l k ∙ ap ordering_reverse g

module _ {K V : Type 0} {cmp : K → K → Ordering} (order : IsTotalOrder cmp) (exact : (a b : K) → cmp a b ≡ Equal → a ≡ b) where
  abbrev pub AllAbove : K → List (K × V) → Type 0
  AllAbove k es = AllByRecursion (λ y. cmp k y ≡ Less) (keys_of es)

  abbrev pub Sorted : List (K × V) → Type 0
  Sorted es = IsStrictlySortedBy cmp (keys_of es)

  pub sorted_above : (e : K × V) (es : List (K × V)) → Sorted (e ∷ es) → AllAbove e.0 es
  unfolding IsStrictlySortedBy
  sorted_above e es s = s.0

  pub sorted_rest : (e : K × V) (es : List (K × V)) → Sorted (e ∷ es) → Sorted es
  unfolding IsStrictlySortedBy
  sorted_rest e es s = s.1

  sorted_cons : (e : K × V) (es : List (K × V)) → AllAbove e.0 es → Sorted es → Sorted (e ∷ es)
  unfolding IsStrictlySortedBy
  sorted_cons e es a s = (a, s)

  pub above_trans : (k l : K) (es : List (K × V)) → cmp k l ≡ Less → AllAbove l es → AllAbove k es
  above_trans k l [] b a = tt
  above_trans k l (e ∷ es) b a = (order.trans k l e.0 b a.0, above_trans k l es b a.1)

  pub value_at-above : (k : K) (es : List (K × V)) → AllAbove k es → value_at cmp k es ≡ None
  value_at-above k [] a = refl
  value_at-above k (e ∷ es) a = ap (λ o. cond (is_eq o) (Some e.1) (value_at cmp k es)) a.0 ∙ value_at-above k es a.1

  value_at-first : (e : K × V) (es : List (K × V)) → value_at cmp e.0 (e ∷ es) ≡ Some e.1
  value_at-first e es = ap (λ o. cond (is_eq o) (Some e.1) (value_at cmp e.0 es)) (tied_itself order e.0)

  -- a key equal to the first has the first value
  pub value_at-equal : (k : K) (e : K × V) (es : List (K × V)) → cmp k e.0 ≡ Equal → value_at cmp k (e ∷ es) ≡ Some e.1
  value_at-equal k e es h = ap (λ o. cond (is_eq o) (Some e.1) (value_at cmp k es)) h

  value_at-less : (k : K) (e : K × V) (es : List (K × V)) → Sorted (e ∷ es) → cmp k e.0 ≡ Less → value_at cmp k (e ∷ es) ≡ None
  value_at-less k e es s h = value_at-above k (e ∷ es) (h, above_trans k e.0 es h (sorted_above e es s))

  pub value_at-greater : (k : K) (e : K × V) (es : List (K × V)) → cmp k e.0 ≡ Greater → value_at cmp k (e ∷ es) ≡ value_at cmp k es
  value_at-greater k e es h = ap (λ o. cond (is_eq o) (Some e.1) (value_at cmp k es)) h

  rest_at : (q : K) (x y : K × V) (xs ys : List (K × V)) (o : Ordering) → cmp q x.0 ≡ o → x.0 ≡ y.0 → Sorted (x ∷ xs)
      → Sorted (y ∷ ys) → value_at cmp q (x ∷ xs) ≡ value_at cmp q (y ∷ ys) → value_at cmp q xs ≡ value_at cmp q ys
  rest_at q x y xs ys Less e same s t h =
      value_at-above q xs (above_trans q x.0 xs e (sorted_above x xs s))
      ∙ sym (value_at-above q ys (above_trans q y.0 ys (sym (ap (cmp q) same) ∙ e) (sorted_above y ys t)))
  rest_at q x y xs ys Equal e same s t h =
      let P : K → Type 0 = λ k. AllAbove k xs in
      let Q : K → Type 0 = λ k. AllAbove k ys in
      let at = exact q x.0 e in
      value_at-above q xs (subst P (sym at) (sorted_above x xs s))
      ∙ sym (value_at-above q ys (subst Q (sym (at ∙ same)) (sorted_above y ys t)))
  rest_at q x y xs ys Greater e same s t h =
      sym (value_at-greater q x xs e) ∙ h ∙ value_at-greater q y ys (sym (ap (cmp q) same) ∙ e)

  some_same : (v w : V) → Some v ≡ Some w → v ≡ w
  some_same v w e = cc

  none_some : {A : Type 0} (v : V) → None ≡ Some v → A
  none_some v e = absurd (cc)

  same_first : (x y : K × V) (xs ys : List (K × V)) → x.0 ≡ y.0 → x.1 ≡ y.1 → xs ≡ ys → x ∷ xs ≡ y ∷ ys
  same_first x y xs ys e f g = λ i. (e i, f i) ∷ g i

  same_by : (o : Ordering) (x y : K × V) (xs ys : List (K × V)) → cmp x.0 y.0 ≡ o → Sorted (x ∷ xs) → Sorted (y ∷ ys)
      → ((q : K) → value_at cmp q (x ∷ xs) ≡ value_at cmp q (y ∷ ys))
      → (((q : K) → value_at cmp q xs ≡ value_at cmp q ys) → xs ≡ ys) → x ∷ xs ≡ y ∷ ys
  same_by Less x y xs ys e s t h rest = none_some x.1 (sym (value_at-less x.0 y ys t e) ∙ sym (h x.0) ∙ value_at-first x xs)
  same_by Greater x y xs ys e s t h rest =
      none_some y.1 (sym (value_at-less y.0 x xs s (greater_back order x.0 y.0 e)) ∙ h y.0 ∙ value_at-first y ys)
  same_by Equal x y xs ys e s t h rest =
      let at = exact x.0 y.0 e in
      same_first x y xs ys at
      (some_same x.1 y.1 (sym (value_at-first x xs) ∙ h x.0 ∙ value_at-equal x.0 y ys e))
      (rest (λ q. rest_at q x y xs ys (cmp q x.0) refl at s t (h q)))

  -- sorted entries with the same value at each key are equal
  pub same_entries : (xs ys : List (K × V)) → Sorted xs → Sorted ys → ((q : K) → value_at cmp q xs ≡ value_at cmp q ys) → xs ≡ ys
  same_entries [] [] s t h = refl
  same_entries [] (y ∷ ys) s t h = none_some y.1 (h y.0 ∙ value_at-first y ys)
  same_entries (x ∷ xs) [] s t h = none_some x.1 (sym (h x.0) ∙ value_at-first x xs)
  same_entries (x ∷ xs) (y ∷ ys) s t h =
      same_by (cmp x.0 y.0) x y xs ys refl s t h (same_entries xs ys (sorted_rest x xs s) (sorted_rest y ys t))

  module _ (join : V → V → V) where
    put_less : (q k : K) (v : V) (e : K × V) (es : List (K × V)) (b : Bool) → is_eq (cmp q k) ≡ b → Sorted (e ∷ es) → cmp k e.0 ≡ Less
        → cond b (Some v) (value_at cmp q (e ∷ es)) ≡ joined_at join (value_at cmp q (e ∷ es)) (cond b (Some v) None)
    put_less q k v e es true h s l =
        sym (ap (λ o. joined_at join o (Some v)) (value_at-less q e es s (order.congr q k e.0 (is_Equal (cmp q k) h) ∙ l)))
    put_less q k v e es false h s l = sym (joined_at-None join (value_at cmp q (e ∷ es)))

    put_equal : (b : Bool) (v w : V) (o : Option V) → cond b (Some (join w v)) o ≡ joined_at join (cond b (Some w) o) (cond b (Some v) None)
    put_equal true v w o = refl
    put_equal false v w o = sym (joined_at-None join o)

    put_greater : (q k : K) (v : V) (e : K × V) (o p : Option V) (b : Bool) → is_eq (cmp q e.0) ≡ b
        → cmp k e.0 ≡ Greater → p ≡ joined_at join o (cond (is_eq (cmp q k)) (Some v) None)
        → cond b (Some e.1) p ≡ joined_at join (cond b (Some e.1) o) (cond (is_eq (cmp q k)) (Some v) None)
    put_greater q k v e o p true h g r =
        let less = order.congr q e.0 k (is_Equal (cmp q e.0) h) ∙ greater_back order k e.0 g in
        sym (ap (λ t. joined_at join (Some e.1) (cond (is_eq t) (Some v) None)) less)
    put_greater q k v e o p false h g r = r

    put_by : (o : Ordering) (q k : K) (v : V) (e : K × V) (es : List (K × V)) → cmp k e.0 ≡ o → Sorted (e ∷ es)
        → value_at cmp q (put_entry cmp join es k v) ≡ joined_at join (value_at cmp q es) (value_at cmp q (one_entry k v))
        → value_at cmp q (match_ordering o ((k, v) ∷ e ∷ es) ((e.0, join e.1 v) ∷ es) (e ∷ put_entry cmp join es k v))
        ≡ joined_at join (value_at cmp q (e ∷ es)) (value_at cmp q (one_entry k v))
    put_by Less q k v e es h s rest = put_less q k v e es (is_eq (cmp q k)) refl s h
    put_by Equal q k v e es h s rest =
        put_equal (is_eq (cmp q e.0)) v e.1 (value_at cmp q es)
        ∙ ap (λ t. joined_at join (value_at cmp q (e ∷ es)) (cond (is_eq t) (Some v) None)) (sym (alike_right order k e.0 q h))
    put_by Greater q k v e es h s rest =
        put_greater q k v e (value_at cmp q es) (value_at cmp q (put_entry cmp join es k v))
        (is_eq (cmp q e.0)) refl h rest

    -- the value at q after an entry was joined into a map
    pub value_at-put : (q k : K) (v : V) (es : List (K × V)) → Sorted es
        → value_at cmp q (put_entry cmp join es k v) ≡ joined_at join (value_at cmp q es)
        (value_at cmp q (one_entry k v))
    value_at-put q k v [] s = refl
    value_at-put q k v (e ∷ es) s = put_by (cmp k e.0) q k v e es refl s (value_at-put q k v es (sorted_rest e es s))

    above_by : (o : Ordering) (j k : K) (v : V) (e : K × V) (es : List (K × V)) → cmp j k ≡ Less → AllAbove j (e ∷ es)
        → AllAbove j (put_entry cmp join es k v)
        → AllAbove j (match_ordering o ((k, v) ∷ e ∷ es) ((e.0, join e.1 v) ∷ es) (e ∷ put_entry cmp join es k v))
    above_by Less j k v e es l a rest = (l, a)
    above_by Equal j k v e es l a rest = a
    above_by Greater j k v e es l a rest = (a.0, rest)

    above_put : (j k : K) (v : V) (es : List (K × V)) → cmp j k ≡ Less → AllAbove j es → AllAbove j (put_entry cmp join es k v)
    above_put j k v [] l a = (l, tt)
    above_put j k v (e ∷ es) l a = above_by (cmp k e.0) j k v e es l a (above_put j k v es l a.1)

    sorted_by : (o : Ordering) (k : K) (v : V) (e : K × V) (es : List (K × V)) → cmp k e.0 ≡ o → Sorted (e ∷ es)
        → Sorted (put_entry cmp join es k v)
        → Sorted (match_ordering o ((k, v) ∷ e ∷ es) ((e.0, join e.1 v) ∷ es) (e ∷ put_entry cmp join es k v))
    sorted_by Less k v e es h s rest = sorted_cons (k, v) (e ∷ es) (h, above_trans k e.0 es h (sorted_above e es s)) s
    sorted_by Equal k v e es h s rest = s
    sorted_by Greater k v e es h s rest =
        sorted_cons e (put_entry cmp join es k v) (above_put e.0 k v es (greater_back order k e.0 h)
        (sorted_above e es s)) rest

    pub sorted-put : (k : K) (v : V) (es : List (K × V)) → Sorted es → Sorted (put_entry cmp join es k v)
    sorted-put k v [] s = sorted_cons (k, v) [] tt s
    sorted-put k v (e ∷ es) s = sorted_by (cmp k e.0) k v e es refl s (sorted-put k v es (sorted_rest e es s))

    pub sorted-joined : (xs ys : List (K × V)) → Sorted xs → Sorted (joined cmp join xs ys)
    sorted-joined xs [] s = s
    sorted-joined xs (e ∷ es) s = sorted-joined (put_entry cmp join xs e.0 e.1) es (sorted-put e.0 e.1 xs s)

    joined_first : (q : K) (e : K × V) (es : List (K × V)) (o : Option V) (t : Ordering) → cmp q e.0 ≡ t → AllAbove e.0 es
        → joined_at join (joined_at join o (cond (is_eq t) (Some e.1) None)) (value_at cmp q es) ≡ joined_at join o
        (cond (is_eq t) (Some e.1) (value_at cmp q es))
    joined_first q e es o Less h a = ap (λ p. joined_at join p (value_at cmp q es)) (joined_at-None join o)
    joined_first q e es o Equal h a =
        let P : K → Type 0 = λ k. AllAbove k es in
        ap (joined_at join (joined_at join o (Some e.1))) (value_at-above q es (subst P (sym (exact q e.0 h)) a))
        ∙ joined_at-None join (joined_at join o (Some e.1))
    joined_first q e es o Greater h a = ap (λ p. joined_at join p (value_at cmp q es)) (joined_at-None join o)

    -- the value of the join of two maps at a key: the join of their values there
    pub value_at-join : (q : K) (xs ys : List (K × V)) → Sorted xs → Sorted ys
        → value_at cmp q (joined cmp join xs ys) ≡ joined_at join (value_at cmp q xs) (value_at cmp q ys)
    value_at-join q xs [] s t = sym (joined_at-None join (value_at cmp q xs))
    value_at-join q xs (e ∷ es) s t =
        value_at-join q (put_entry cmp join xs e.0 e.1) es (sorted-put e.0 e.1 xs s) (sorted_rest e es t)
        ∙ ap (λ o. joined_at join o (value_at cmp q es)) (value_at-put q e.0 e.1 xs s)
        ∙ joined_first q e es (value_at cmp q xs) (cmp q e.0) refl (sorted_above e es t)

  module _ {Valid : V → Type 0} {join : V → V → V} (laws : JoinLaws Valid join) where
    abbrev Valids : List (K × V) → Type 0
    Valids es = IsJoinMap cmp Valid es

    -- the value at a key is valid
    pub valid_at : (k : K) (es : List (K × V)) → AllValid Valid es → ValidAt Valid (value_at cmp k es)
    valid_at k [] a = tt
    valid_at k (e ∷ es) a = let P : Option V
        → Type 0 = ValidAt Valid in cond_both (is_eq (cmp k e.0)) _ _ P (λ _. a.0) (λ _. valid_at k es a.1)

    valid_by : (o : Ordering) (k : K) (v : V) (e : K × V) (es : List (K × V)) → Valid v → AllValid Valid (e ∷ es)
        → AllValid Valid (put_entry cmp join es k v)
        → AllValid Valid (match_ordering o ((k, v) ∷ e ∷ es) ((e.0, join e.1 v) ∷ es) (e ∷ put_entry cmp join es k v))
    valid_by Less k v e es h a rest = (h, a)
    valid_by Equal k v e es h a rest = (laws.keeps e.1 v a.0 h, a.1)
    valid_by Greater k v e es h a rest = (a.0, rest)

    valid_put : (k : K) (v : V) (es : List (K × V)) → Valid v → AllValid Valid es → AllValid Valid (put_entry cmp join es k v)
    valid_put k v [] h a = (h, tt)
    valid_put k v (e ∷ es) h a = valid_by (cmp k e.0) k v e es h a (valid_put k v es h a.1)

    valid_joined : (xs ys : List (K × V)) → AllValid Valid xs → AllValid Valid ys → AllValid Valid (joined cmp join xs ys)
    valid_joined xs [] a b = a
    valid_joined xs (e ∷ es) a b = valid_joined (put_entry cmp join xs e.0 e.1) es (valid_put e.0 e.1 xs b.0 a) b.1

    pub IsJoinMap-none : Valids []
    IsJoinMap-none = record { sorted = sorted_none cmp; valid = tt }

    pub IsJoinMap-one : (k : K) (v : V) → Valid v → Valids (one_entry k v)
    IsJoinMap-one k v h = record { sorted = sorted_cons (k, v) [] tt (sorted_none cmp); valid = (h, tt) }

    pub IsJoinMap-rest : (e : K × V) (es : List (K × V)) → Valids (e ∷ es) → Valids es
    IsJoinMap-rest e es a = record { sorted = sorted_rest e es a.sorted; valid = a.valid.1 }

    pub IsJoinMap-put : (k : K) (v : V) (es : List (K × V)) → Valid v → Valids es → Valids (put_entry cmp join es k v)
    IsJoinMap-put k v es h a = record { sorted = sorted-put join k v es a.sorted; valid = valid_put k v es h a.valid }

    pub IsJoinMap-join : (xs ys : List (K × V)) → Valids xs → Valids ys → Valids (joined cmp join xs ys)
    IsJoinMap-join xs ys a b = record { sorted = sorted-joined join xs ys a.sorted; valid = valid_joined xs ys a.valid b.valid }

    pub IsJoinMap-value : (k : K) (v : V) (es : List (K × V)) → Valids es → value_at cmp k es ≡ Some v → Valid v
    IsJoinMap-value k v es a h = subst (ValidAt Valid) h (valid_at k es a.valid)

    at_join : (q : K) (xs ys : List (K × V)) → Valids xs → Valids ys
        → value_at cmp q (joined cmp join xs ys) ≡ joined_at join (value_at cmp q xs) (value_at cmp q ys)
    at_join q xs ys a b = value_at-join join q xs ys a.sorted b.sorted

    -- maps with the same value at each key are equal
    pub same_maps : (xs ys : List (K × V)) → Valids xs → Valids ys → ((q : K) → value_at cmp q xs ≡ value_at cmp q ys) → xs ≡ ys
    same_maps xs ys a b h = same_entries xs ys a.sorted b.sorted h

    joined_itself : (xs : List (K × V)) → Valids xs → joined cmp join xs xs ≡ xs
    joined_itself xs a = same_maps (joined cmp join xs xs) xs (IsJoinMap-join xs xs a a) a
        (λ q. at_join q xs xs a a ∙ joined_at-same laws (value_at cmp q xs) (valid_at q xs a.valid))

    joined_comm : (xs ys : List (K × V)) → Valids xs → Valids ys → joined cmp join xs ys ≡ joined cmp join ys xs
    joined_comm xs ys a b = same_maps (joined cmp join xs ys) (joined cmp join ys xs) (IsJoinMap-join xs ys a b) (IsJoinMap-join ys xs b a)
        (λ q. at_join q xs ys a b ∙ joined_at-comm laws (value_at cmp q xs) (value_at cmp q ys)
        (valid_at q xs a.valid) (valid_at q ys b.valid) ∙ sym (at_join q ys xs b a))

    joined_assoc : (xs ys zs : List (K × V)) → Valids xs → Valids ys → Valids zs
        → joined cmp join (joined cmp join xs ys) zs ≡ joined cmp join xs (joined cmp join ys zs)
    joined_assoc xs ys zs a b c =
        let ab = IsJoinMap-join xs ys a b in
        let bc = IsJoinMap-join ys zs b c in
        same_maps (joined cmp join (joined cmp join xs ys) zs) (joined cmp join xs (joined cmp join ys zs))
        (IsJoinMap-join (joined cmp join xs ys) zs ab c) (IsJoinMap-join xs (joined cmp join ys zs) a bc)
        (λ q. at_join q (joined cmp join xs ys) zs ab c
        ∙ ap (λ o. joined_at join o (value_at cmp q zs)) (at_join q xs ys a b)
        ∙ joined_at-assoc laws (value_at cmp q xs) (value_at cmp q ys) (value_at cmp q zs) (valid_at q xs a.valid)
        (valid_at q ys b.valid) (valid_at q zs c.valid)
        ∙ sym (ap (joined_at join (value_at cmp q xs)) (at_join q ys zs b c))
        ∙ sym (at_join q xs (joined cmp join ys zs) a bc))

    -- joining maps key by key obeys the laws of a join
    pub joined-laws : JoinLaws (IsJoinMap cmp Valid) (joined cmp join)
    joined-laws = record { idempotent = joined_itself; commutative = joined_comm; associative = joined_assoc; keeps = IsJoinMap-join }

    -- the empty map adds nothing
    pub joined-none : (xs : List (K × V)) → Valids xs → joined cmp join [] xs ≡ xs
    joined-none xs a = same_maps (joined cmp join [] xs) xs (IsJoinMap-join [] xs IsJoinMap-none a) a
        (λ q. at_join q [] xs IsJoinMap-none a)

    -- ---- one entry

    -- an entry of a new key goes to its place
    insert_by : (o : Ordering) (k : K) (v : V) (e : K × V) (es : List (K × V)) → cmp k e.0 ≡ o
        → value_at cmp k (e ∷ es) ≡ None
        → (value_at cmp k es ≡ None → insert_entry cmp es k v ≡ put_entry cmp join es k v)
        → match_ordering o ((k, v) ∷ e ∷ es) ((e.0, v) ∷ es) (e ∷ insert_entry cmp es k v) ≡ match_ordering o
        ((k, v) ∷ e ∷ es) ((e.0, join e.1 v) ∷ es) (e ∷ put_entry cmp join es k v)
    insert_by Less k v e es h n rest = refl
    insert_by Equal k v e es h n rest = none_some e.1 (sym n ∙ value_at-equal k e es h)
    insert_by Greater k v e es h n rest = ap (λ fs. e ∷ fs) (rest (sym (value_at-greater k e es h) ∙ n))

    pub insert_entry-put : (k : K) (v : V) (es : List (K × V)) → value_at cmp k es ≡ None
        → insert_entry cmp es k v ≡ put_entry cmp join es k v
    insert_entry-put k v [] n = refl
    insert_entry-put k v (e ∷ es) n = insert_by (cmp k e.0) k v e es refl n (insert_entry-put k v es)

    -- with u written at the key k, which is there
    abbrev Written : K → List (K × V) → V → List (K × V)
    Written k es u = set_value (λ key. is_eq (cmp k key)) es u

    one_of : (test : K → Bool) (x y : K) → ((z : K) → test z ≡ is_eq (cmp x z)) → test y ≡ is_eq (cmp x y)
    one_of test x y h = h y

    written_by : (o : Ordering) (k : K) (u w : V) (e : K × V) (es : List (K × V)) → cmp k e.0 ≡ o → (v : V)
        → u ≡ join w v → Sorted (e ∷ es) → value_at cmp k (e ∷ es) ≡ Some w
        → (value_at cmp k es ≡ Some w → Written k es u ≡ put_entry cmp join es k v)
        → cond (is_eq o) ((e.0, u) ∷ es) (e ∷ Written k es u) ≡ match_ordering o ((k, v) ∷ e ∷ es)
        ((e.0, join e.1 v) ∷ es) (e ∷ put_entry cmp join es k v)
    written_by Less k u w e es h v j s f rest = none_some w (sym (value_at-less k e es s h) ∙ f)
    written_by Equal k u w e es h v j s f rest =
        ap (λ x. (e.0, x) ∷ es) (j ∙ ap (λ x. join x v) (some_same w e.1 (sym f ∙ value_at-equal k e es h)))
    written_by Greater k u w e es h v j s f rest = ap (λ fs. e ∷ fs) (rest (sym (value_at-greater k e es h) ∙ f))

    -- the join written at its key is the entry joined in
    pub set_value-put : (k : K) (u v w : V) (es : List (K × V)) → u ≡ join w v → Sorted es
        → value_at cmp k es ≡ Some w → Written k es u ≡ put_entry cmp join es k v
    set_value-put k u v w [] j s f = none_some w f
    set_value-put k u v w (e ∷ es) j s f = written_by (cmp k e.0) k u w e es refl v j s f (set_value-put k u v w es j (sorted_rest e es s))
