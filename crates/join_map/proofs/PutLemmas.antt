-- A map after one value in it was joined with another, and a walk that joins entry by entry.
use Rattle.std.proofs.Common.{arith, ◌≡◌, Bool, true, false, cond, List, [], ◌∷◌, Option, Some, None, Result, Ok, Err, OnOk}
use Rattle.std.proofs.Common.{OnErr, IsSome, is_some, Ordering, Equal, refl, sym, ap, ◌∙◌, subst, is_eq}
use Rattle.std.specs.{Cmp.{IsTotalOrder, eq_by_cmp_equiv, Equal-is}, List.Sorted.{IsStrictlySortedBy}, Map.{keys_of, set_value}}
use Rattle.std.proofs.lemmas.{Map.{lookup-set_value}, Bool.{cond_both}}
use Rattle.join_map.specs.{Join.{JoinLaws, IsAtMost, IsPartOfJoin}, laws.Join.{IsAtMost-refl, IsAtMost-trans, IsAtMost-left}}
use Rattle.join_map.specs.Entries.{value_at, AllValid, IsJoinMap, put_entry, joined, joined_at, one_entry}
use Rattle.join_map.specs.laws.Entries.{joined_at-None, joined_at-same, ValidAt, valid_at, value_at-join, same_maps, joined-laws}
use Rattle.join_map.specs.laws.Entries.{IsJoinMap-one, IsJoinMap-rest, IsJoinMap-join, set_value-put}

module _ {K V : Type 0} {cmp : K → K → Ordering} (order : IsTotalOrder cmp) (exact : (a b : K) → cmp a b ≡ Equal
    → a ≡ b) {Valid : V → Type 0} {join : V → V → V} (laws : JoinLaws Valid join) where
  abbrev Written : K → List (K × V) → V → List (K × V)
  Written k es u = set_value (λ key. is_eq (cmp k key)) es u

  some_is : (o : Option V) (w : V) → o ≡ Some w → IsSome o
  some_is o w h = ap is_some h

  value_at-written : (q k : K) (u w : V) (es : List (K × V)) → value_at cmp k es ≡ Some w
      → value_at cmp q (Written k es u) ≡ cond (is_eq (cmp k q)) (Some u) (value_at cmp q es)
  value_at-written q k u w es h =
      lookup-set_value (eq_by_cmp_equiv order) (λ key. is_eq (cmp k key))
      (λ x y e. (eq_by_cmp_equiv order).congr k x y e) q u es (some_is (value_at cmp k es) w h)

  pub valid_written : (k : K) (u : V) (es : List (K × V)) → Valid u → AllValid Valid es → AllValid Valid (Written k es u)
  valid_written k u [] h a = tt
  valid_written k u (e ∷ es) h a = grind (arith, cond_both, is_eq, valid_written k u es h a.1)

  from_old_at : (b : Bool) (o : Option V) (u w : V) → (b ≡ true → o ≡ Some w) → ValidAt Valid o → IsAtMost join w u
      → joined_at join o (cond b (Some u) o) ≡ cond b (Some u) o
  from_old_at true o u w h a part = ap (λ p. joined_at join p (Some u)) (h refl) ∙ ap Some part
  from_old_at false o u w h a part = joined_at-same laws o a

  to_join_at : (b : Bool) (o : Option V) (u v w : V) → (b ≡ true → o ≡ Some w) → ValidAt Valid o → IsAtMost join u (join w v)
      → joined_at join (cond b (Some u) o) (joined_at join o (cond b (Some v) None)) ≡ joined_at join o (cond b (Some v) None)
  to_join_at true o u v w h a part = ap (λ p. joined_at join (Some u) (joined_at join p (Some v))) (h refl)
      ∙ ap Some part ∙ sym (ap (λ p. joined_at join p (Some v)) (h refl))
  to_join_at false o u v w h a part = ap (joined_at join o) (joined_at-None join o) ∙ joined_at-same laws o a ∙ sym (joined_at-None join o)

  at_key : (q k : K) (w : V) (es : List (K × V)) → value_at cmp k es ≡ Some w → is_eq (cmp k q) ≡ true → value_at cmp q es ≡ Some w
  at_key q k w es h e = sym (ap (λ x. value_at cmp x es) (exact k q ((Equal-is (cmp k q)).0 e))) ∙ h

  -- where one value lies between the old one and the join, the map lies between the old one and its join
  pub part_written : (k : K) (u v w : V) (es : List (K × V)) → IsJoinMap cmp Valid es
      → IsJoinMap cmp Valid (Written k es u) → Valid v → value_at cmp k es ≡ Some w → IsPartOfJoin join w v u
      → IsPartOfJoin (joined cmp join) es (one_entry k v) (Written k es u)
  part_written k u v w es a b valid h part =
      let one = IsJoinMap-one order exact laws k v valid in
      let all = IsJoinMap-join order exact laws es (one_entry k v) a one in
      let same = λ (q : K). (eq_by_cmp_equiv order).symm q k in
      let at_one : (q : K) → value_at cmp q (one_entry k v) ≡ cond (is_eq (cmp k q)) (Some v) None =
      λ q. ap (λ t. cond t (Some v) None) (same q) in
      let written = λ (q : K). value_at-written q k u w es h in
      record {
        from_old = same_maps order exact laws (joined cmp join es (Written k es u)) (Written k es u)
            (IsJoinMap-join order exact laws es (Written k es u) a b) b
            (λ q. value_at-join order exact join q es (Written k es u) a.sorted b.sorted
            ∙ ap (joined_at join (value_at cmp q es)) (written q)
            ∙ from_old_at (is_eq (cmp k q)) (value_at cmp q es) u w (at_key q k w es h)
            (valid_at order exact laws q es a.valid) part.from_old
            ∙ sym (written q));
        to_join = same_maps order exact laws (joined cmp join (Written k es u) (joined cmp join es (one_entry k v)))
            (joined cmp join es (one_entry k v)) (IsJoinMap-join order exact laws (Written k es u)
            (joined cmp join es (one_entry k v)) b all) all
            (λ q. let at_all = value_at-join order exact join q es (one_entry k v) a.sorted one.sorted
            ∙ ap (joined_at join (value_at cmp q es)) (at_one q) in
            value_at-join order exact join q (Written k es u) (joined cmp join es (one_entry k v)) b.sorted all.sorted
            ∙ ap (λ o. joined_at join o (value_at cmp q (joined cmp join es (one_entry k v)))) (written q)
            ∙ ap (joined_at join (cond (is_eq (cmp k q)) (Some u) (value_at cmp q es))) at_all
            ∙ to_join_at (is_eq (cmp k q)) (value_at cmp q es) u v w (at_key q k w es h)
            (valid_at order exact laws q es a.valid) part.to_join
            ∙ sym at_all);
      }

  -- ---- a call that joined into the value there

  pub written_ok : {E : Type 0} (r : Result (Unit {0}) E) (k : K) (u v w : V) (es gs : List (K × V))
      → IsJoinMap cmp Valid es → value_at cmp k es ≡ Some w → gs ≡ Written k es u
      → OnOk r (u ≡ join w v) → OnOk r (gs ≡ put_entry cmp join es k v)
  written_ok (Ok x) k u v w es gs a h e ok = e ∙ set_value-put order exact laws k u v w es ok a.sorted h
  written_ok (Err x) k u v w es gs a h e ok = ok

  pub written_map : (k : K) (u : V) (es gs : List (K × V)) → IsJoinMap cmp Valid es → Valid u → gs ≡ Written k es u
      → IsStrictlySortedBy cmp (keys_of gs) → IsJoinMap cmp Valid gs
  written_map k u es gs a h e s = record { sorted = s; valid = subst (AllValid Valid) (sym e) (valid_written k u es h a.valid) }

  pub written_err : {E : Type 0} (r : Result (Unit {0}) E) (k : K) (u v w : V) (es gs : List (K × V))
      → IsJoinMap cmp Valid es → Valid u → IsStrictlySortedBy cmp (keys_of gs) → Valid v → value_at cmp k es ≡ Some w
      → gs ≡ Written k es u
      → OnErr r (IsPartOfJoin join w v u) → OnErr r (IsPartOfJoin (joined cmp join) es (one_entry k v) gs)
  written_err (Ok x) k u v w es gs a h s valid n e err = err
  written_err (Err x) k u v w es gs a h s valid n e err =
      subst (IsPartOfJoin (joined cmp join) es (one_entry k v)) (sym e)
      (part_written k u v w es a (subst (IsJoinMap cmp Valid) e (written_map k u es gs a h e s)) valid n err)

  -- ---- a walk that joins entry by entry

  abbrev All : JoinLaws (IsJoinMap cmp Valid) (joined cmp join)
  All = joined-laws order exact laws

  -- `value` was reached from `old`, and the entries that are left lead to the join with `other`
  pub record Leads (old other value rest : List (K × V)) : Type 0 where
    pub held : IsJoinMap cmp Valid value
    pub left : IsJoinMap cmp Valid rest
    pub above : IsAtMost (joined cmp join) old value
    pub leads : joined cmp join value rest ≡ joined cmp join old other

  pub leads_first : (old other : List (K × V)) → IsJoinMap cmp Valid old → IsJoinMap cmp Valid other → Leads old other old other
  leads_first old other a b = record { held = a; left = b; above = IsAtMost-refl All old a; leads = refl }

  pub leads_more : (old other value new rest : List (K × V)) (e : K × V) (all : List (K × V))
      → IsJoinMap cmp Valid old → IsJoinMap cmp Valid new → all ≡ e ∷ rest → Leads old other value all
      → new ≡ joined cmp join value (one_entry e.0 e.1) → Leads old other new rest
  leads_more old other value new rest e all a b is l put =
      let left : IsJoinMap cmp Valid (e ∷ rest) = subst (IsJoinMap cmp Valid) is l.left in
      let one = IsJoinMap-one order exact laws e.0 e.1 left.valid.0 in
      record {
        held = b;
        left = IsJoinMap-rest order exact laws e rest left;
        above = IsAtMost-trans All old value new a l.held b l.above
            (subst (IsAtMost (joined cmp join) value) (sym put)
            (IsAtMost-left All value (one_entry e.0 e.1) l.held one));
        leads = ap (λ x. joined cmp join x rest) put ∙ sym (ap (joined cmp join value) is) ∙ l.leads;
      }

  pub leads_part : (old other value new rest : List (K × V)) (e : K × V) (all : List (K × V))
      → IsJoinMap cmp Valid old → IsJoinMap cmp Valid other → IsJoinMap cmp Valid new → all ≡ e ∷ rest
      → Leads old other value all
      → IsPartOfJoin (joined cmp join) value (one_entry e.0 e.1) new → IsPartOfJoin (joined cmp join) old other new
  leads_part old other value new rest e all a b n is l part =
      let left : IsJoinMap cmp Valid (e ∷ rest) = subst (IsJoinMap cmp Valid) is l.left in
      let one = IsJoinMap-one order exact laws e.0 e.1 left.valid.0 in
      let put = IsJoinMap-join order exact laws value (one_entry e.0 e.1) l.held one in
      let after = IsJoinMap-rest order exact laws e rest left in
      let whole = IsJoinMap-join order exact laws old other a b in
      record {
        from_old = IsAtMost-trans All old value new a l.held n l.above part.from_old;
        to_join = IsAtMost-trans All new (joined cmp join value (one_entry e.0 e.1)) (joined cmp join old other) n put whole part.to_join
            (subst (IsAtMost (joined cmp join) (joined cmp join value (one_entry e.0 e.1))) (sym (ap (joined cmp join value) is) ∙ l.leads)
            (IsAtMost-left All (joined cmp join value (one_entry e.0 e.1)) rest put after));
      }

pub on_err : {T E : Type 0} (r : Result T E) (P : Type 0) → P → OnErr r P
on_err (Ok x) P h = tt
on_err (Err x) P h = h
