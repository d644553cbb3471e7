-- A walk over blocks.
use Rattle.std.proofs.Common.{◌≡◌, ℕ, ◌<◌, List, [], ◌∷◌, ◌++◌, length, Bool, false, ◌==◌, Option, None, sym, ap, ◌∙◌, subst, arith}
use Rattle.std.specs.Map.Iter.{TakesFirst}
use Rattle.std.proofs.lemmas.Bool.{eqb-false as unequal}
use Rattle.join_map.specs.Blocks.{AllFilled, AllWithin, entries_of, picked}

-- the entries at some places and in the blocks after them are those that are left, and there is a place
pub record IsOpen {E : Type 0} (es : List E) (ps : List ℕ) (bs : List (List ℕ)) (left : List E) : Type 0 where
  pub some : 0 < length ps
  pub filled : AllFilled bs
  pub within : AllWithin (length es) (ps ++ entries_of bs)
  pub is : picked es (ps ++ entries_of bs) ≡ left

module _ {E : Type 0} where
  -- there is a place
  pub open_still : (es : List E) (ps : List ℕ) (bs : List (List ℕ)) (left : List E) (empty : Bool)
      → AllFilled bs × AllWithin (length es) (ps ++ entries_of bs) → picked es (ps ++ entries_of bs) ≡ left
      → empty ≡ (length ps == 0) → empty ≡ false → IsOpen es ps bs left
  open_still es ps bs left empty held is asked told =
      let some = unequal (length ps) 0 (sym asked ∙ told) in
      record { some = omega (arith, some); filled = held.0; within = held.1; is = is }

  -- a walk goes on to the next block
  pub open_next : (es : List E) (ps qs b : List ℕ) (bs cs : List (List ℕ)) (left : List E)
      → AllFilled bs × AllWithin (length es) (ps ++ entries_of bs) → picked es (ps ++ entries_of bs) ≡ left
      → length ps ≡ 0 → bs ≡ b ∷ cs → qs ≡ b → IsOpen es qs cs left
  open_next es [] qs b bs cs left held is none next same =
      let opened = subst (λ zs. AllFilled zs × AllWithin (length es) (entries_of zs)) next held in
      record {
        some = subst (λ ps. 0 < length ps) (sym same) opened.0.0;
        filled = opened.0.1;
        within = subst (λ ps. AllWithin (length es) (ps ++ entries_of cs)) (sym same) opened.1;
        is = ap (λ ps. picked es (ps ++ entries_of cs)) same ∙ ap (λ zs. picked es (entries_of zs)) (sym next) ∙ is;
      }
  open_next es (p ∷ ps) qs b bs cs left held is none next same = absurd (omega (arith, none))

  -- the first place that is left, and the others
  pub open_first : (es : List E) (p : ℕ) (ps qs : List ℕ) (bs : List (List ℕ)) (left : List E) → IsOpen es ps bs left
      → ps ≡ p ∷ qs → (p < length es) × AllWithin (length es) (qs ++ entries_of bs)
  open_first es p ps qs bs left o is = subst (λ ps. AllWithin (length es) (ps ++ entries_of bs)) is o.within

  -- with no place and no block nothing is left
  pub none_left : {A : Type 0} (shows : A → E) (es : List E) (ps : List ℕ) (bs : List (List ℕ)) (left : List E)
      (r : Option A) → picked es (ps ++ entries_of bs) ≡ left → length ps ≡ 0 → length bs ≡ 0 → r ≡ None
      → TakesFirst shows left r left
  none_left shows es [] [] left r is none no_block e = subst (λ r. TakesFirst shows left r left) (sym e) (sym is, sym is)
  none_left shows es [] (b ∷ bs) left r is none no_block e = absurd (omega (arith, no_block))
  none_left shows es (p ∷ ps) bs left r is none no_block e = absurd (omega (arith, none))

  -- an open walk has a place
  pub place_left : {P : Type 0} (es : List E) (ps : List ℕ) (bs : List (List ℕ)) (left : List E) → IsOpen es ps bs left → length ps ≡ 0 → P
  place_left es ps bs left o none = absurd (omega (arith, o.some, none))
