-- Entries in any order, and the map of them.
use Rattle.std.proofs.Common.{rules, ◌≡◌, ℕ, zero, suc, ◌<◌, List, [], ◌∷◌, ◌++◌, length, get_or, take, drop, set}
use Rattle.std.proofs.Common.{Option, Some, None, IfSome, Result, Ok, Err, OnOk, OnErr, Ordering, Equal, refl, sym, ap, ◌∙◌, subst, arith}
use Rattle.std.specs.{Cmp.{IsTotalOrder, tied_itself}, Ordering.{match_ordering}}
use Rattle.std.proofs.lemmas.List.{set-get_or, set_split}
use Rattle.join_map.specs.{Join.{JoinLaws}, Entries.{AllFit, AllValid, IsJoinMap, gathered, joined, one_entry}}
use Rattle.join_map.specs.laws.Entries.{IsJoinMap-none, IsJoinMap-one, joined-laws}

module _ {K V : Type 0} where
  pub joined-append : (cmp : K → K → Ordering) (join : V → V → V) (xs ys zs : List (K × V))
      → joined cmp join xs (ys ++ zs) ≡ joined cmp join (joined cmp join xs ys) zs
  joined-append cmp join xs [] zs = refl
  joined-append cmp join xs (y ∷ ys) zs = joined-append cmp join (joined cmp join xs (one_entry y.0 y.1)) ys zs

  -- an entry written, and what was there
  pub written : (es : List (K × V)) (p : ℕ) (x : K × V) → p < length es → set es p x ≡ take p es ++ x ∷ drop (suc p) es
  written es p x l = set_split es p x l

  pub was_there : (es : List (K × V)) (p : ℕ) (e : K × V) → p < length es → e ≡ get_or es p e → es ≡ take p es ++ e ∷ drop (suc p) es
  was_there es p e l is = sym (ap (set es p) is ∙ set-get_or es p e) ∙ set_split es p e l

  pub unchanged : (es : List (K × V)) (p : ℕ) (e : K × V) (u : V) → e ≡ get_or es p e → u ≡ e.1 → set es p (e.0, u) ≡ es
  unchanged es p e u is same = ap (λ w. set es p (e.0, w)) same ∙ ap (set es p) is ∙ set-get_or es p e

  module _ (Valid : V → Type 0) where
    pub valid-front : (xs ys : List (K × V)) → AllValid Valid (xs ++ ys) → AllValid Valid xs
    valid-front [] ys a = tt
    valid-front (x ∷ xs) ys a = (a.0, valid-front xs ys a.1)

    pub valid-back : (xs ys : List (K × V)) → AllValid Valid (xs ++ ys) → AllValid Valid ys
    valid-back [] ys a = a
    valid-back (x ∷ xs) ys a = valid-back xs ys a.1

    pub valid_both : (xs ys : List (K × V)) → AllValid Valid xs → AllValid Valid ys → AllValid Valid (xs ++ ys)
    valid_both [] ys a b = b
    valid_both (x ∷ xs) ys a b = (a.0, valid_both xs ys a.1 b)

    pub valid-set : (es : List (K × V)) (p : ℕ) (x : K × V) → AllValid Valid es → Valid x.1 → AllValid Valid (set es p x)
    valid-set [] p x a v = tt
    valid-set (e ∷ es) zero x a v = (v, a.1)
    valid-set (e ∷ es) (suc p) x a v = (a.0, valid-set es p x a.1 v)

  module _ (Fits : K → V → Type 0) where
    pub fits-at : (es : List (K × V)) (p : ℕ) (e : K × V) → p < length es → e ≡ get_or es p e → AllFit Fits es → Fits e.0 e.1
    fits-at [] p e l is a = absurd (omega (arith, l))
    fits-at (x ∷ es) zero e l is a =
        let P : K × V → Type 0 = λ y. Fits y.0 y.1 in
        subst P (sym is) a.0
    fits-at (x ∷ es) (suc p) e l is a = fits-at es p e (omega (arith, l)) is a.1

    pub fits-set : (es : List (K × V)) (p : ℕ) (x : K × V) → AllFit Fits es → Fits x.0 x.1 → AllFit Fits (set es p x)
    fits-set [] p x a f = tt
    fits-set (e ∷ es) zero x a f = (f, a.1)
    fits-set (e ∷ es) (suc p) x a f = (a.0, fits-set es p x a.1 f)

    pub fits-push : (es : List (K × V)) (x : K × V) → AllFit Fits es → Fits x.0 x.1 → AllFit Fits (es ++ x ∷ [])
    fits-push [] x a f = (f, tt)
    fits-push (e ∷ es) x a f = (a.0, fits-push es x a.1 f)

    pub fits_appended : {T F : Type 0} (r : Result T F) (es fs was : List (K × V)) (k : K) (v : V) → was ≡ es
        → AllFit Fits es → Fits k v → OnOk r (fs ≡ was ++ one_entry k v) → OnErr r (fs ≡ was) → AllFit Fits fs
    fits_appended (Ok x) es fs was k v same a f ok err =
        subst (AllFit Fits) (sym (ok ∙ ap (λ xs. xs ++ one_entry k v) same)) (fits-push es (k, v) a f)
    fits_appended (Err x) es fs was k v same a f ok err = subst (AllFit Fits) (sym (err ∙ same)) a

  pub gathered_appended : {T F : Type 0} (cmp : K → K → Ordering) (join : V → V → V) (r : Result T F)
      (es fs was : List (K × V)) (k : K) (v : V) → was ≡ es → OnOk r (fs ≡ was ++ one_entry k v)
      → OnOk r (gathered cmp join fs ≡ joined cmp join (gathered cmp join es) (one_entry k v))
  gathered_appended cmp join (Ok x) es fs was k v same ok =
      ap (gathered cmp join) (ok ∙ ap (λ xs. xs ++ one_entry k v) same) ∙ joined-append cmp join [] es (one_entry k v)
  gathered_appended cmp join (Err x) es fs was k v same ok = ok

module _ {K V : Type 0} {cmp : K → K → Ordering} (order : IsTotalOrder cmp) (exact : (a b : K) → cmp a b ≡ Equal → a ≡ b)
    {Valid : V → Type 0} {join : V → V → V} (laws : JoinLaws Valid join) where
  abbrev Laws : JoinLaws (IsJoinMap cmp Valid) (joined cmp join)
  Laws = joined-laws order exact laws

  abbrev Map : List (K × V) → Type 0
  Map = IsJoinMap cmp Valid

  one-map : (k : K) (v : V) → Valid v → Map (one_entry k v)
  one-map k v h = IsJoinMap-one order exact laws k v h

  -- joining entries one after another into a map gives a map
  pub map-joined : (m es : List (K × V)) → Map m → AllValid Valid es → Map (joined cmp join m es)
  map-joined m [] a v = a
  map-joined m (e ∷ es) a v =
      map-joined (joined cmp join m (one_entry e.0 e.1)) es
      (Laws.keeps m (one_entry e.0 e.1) a (one-map e.0 e.1 v.0)) v.1

  pub map-gathered : (es : List (K × V)) → AllValid Valid es → Map (gathered cmp join es)
  map-gathered es v = map-joined [] es (IsJoinMap-none order exact laws) v

  -- entries joined one after another are joined as the map of them
  pub joined-gathered : (m es : List (K × V)) → Map m → AllValid Valid es
      → joined cmp join m es ≡ joined cmp join m (gathered cmp join es)
  joined-gathered m [] a v = refl
  joined-gathered m (e ∷ es) a v =
      let one = one_entry e.0 e.1 in
      let is_one = one-map e.0 e.1 v.0 in
      let rest = gathered cmp join es in
      let is_rest = map-gathered es v.1 in
      joined-gathered (joined cmp join m one) es (Laws.keeps m one a is_one) v.1
      ∙ Laws.associative m one rest a is_one is_rest
      ∙ ap (joined cmp join m) (sym (joined-gathered one es is_one v.1))

  -- a value joined into that of an entry
  pub gathered-joined : (xs ys : List (K × V)) (k : K) (v w : V) → AllValid Valid (xs ++ (k, v) ∷ ys) → Valid w
      → gathered cmp join (xs ++ (k, join v w) ∷ ys) ≡ joined cmp join (gathered cmp join (xs ++ (k, v) ∷ ys)) (one_entry k w)
  gathered-joined xs ys k v w a h =
      let back = valid-back Valid xs ((k, v) ∷ ys) a in
      let A = gathered cmp join xs in
      let B = gathered cmp join ys in
      let o = one_entry k v in
      let u = one_entry k w in
      let is_A = map-gathered xs (valid-front Valid xs ((k, v) ∷ ys) a) in
      let is_B = map-gathered ys back.1 in
      let is_o = one-map k v back.0 in
      let is_u = one-map k w h in
      let ou = joined cmp join o u in
      let is_ou = Laws.keeps o u is_o is_u in
      let Ao = joined cmp join A o in
      let is_Ao = Laws.keeps A o is_A is_o in
      let both : one_entry k (join v w) ≡ ou = sym (ap (λ t. match_ordering t ((k, w) ∷ o) ((k, join v w) ∷ [])
      ((k, v) ∷ (k, w) ∷ [])) (tied_itself order k)) in
      let whole : gathered cmp join (xs ++ (k, v) ∷ ys) ≡ joined cmp join Ao B =
      joined-append cmp join [] xs ((k, v) ∷ ys) ∙ joined-gathered Ao ys is_Ao back.1 in
      joined-append cmp join [] xs ((k, join v w) ∷ ys)
      ∙ ap (λ m. joined cmp join (joined cmp join A m) ys) both
      ∙ joined-gathered (joined cmp join A ou) ys (Laws.keeps A ou is_A is_ou) back.1
      ∙ ap (λ m. joined cmp join m B) (sym (Laws.associative A o u is_A is_o is_u))
      ∙ Laws.associative Ao u B is_Ao is_u is_B
      ∙ ap (joined cmp join Ao) (Laws.commutative u B is_u is_B)
      ∙ sym (Laws.associative Ao B u is_Ao is_B is_u)
      ∙ ap (λ m. joined cmp join m u) (sym whole)

  -- the same at a place
  pub gathered-set : (es : List (K × V)) (p : ℕ) (e : K × V) (u w : V) → p < length es → e ≡ get_or es p e
      → AllValid Valid es → Valid w → u ≡ join e.1 w
      → gathered cmp join (set es p (e.0, u)) ≡ joined cmp join (gathered cmp join es) (one_entry e.0 w)
  gathered-set es p e u w l is a h joins = search (rules, was_there, written, gathered-joined)

  -- the same for a call that may have joined the value
  pub joined_at_place : {F : Type 0} (es : List (K × V)) (p : ℕ) (e : K × V) (u : V) (k : K) (w : V) → p < length es
      → e ≡ get_or es p e → AllValid Valid es → Valid w → (o : Option (Result (Unit {0}) F)) → {Fit : Type 0} → Fit
      → IfSome o (λ _. Fit → e.0 ≡ k) → IfSome o (λ r. OnOk r (u ≡ join e.1 w))
      → IfSome o (λ r. OnOk r (gathered cmp join (set es p (e.0, u)) ≡ joined cmp join (gathered cmp join es) (one_entry k w)))
  joined_at_place es p e u k w l is a h None fit own ok = tt
  joined_at_place es p e u k w l is a h (Some (Err x)) fit own ok = tt
  joined_at_place es p e u k w l is a h (Some (Ok x)) fit own ok =
      gathered-set es p e u w l is a h ok ∙ ap (λ q. joined cmp join (gathered cmp join es) (one_entry q w)) (own fit)

-- WHAT FUNCTIONS ARE PROVED BY

pub ruleset for_join_at = (fits-at, fits-set, joined_at_place, valid-set)
