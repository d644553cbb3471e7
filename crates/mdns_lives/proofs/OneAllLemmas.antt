-- The same hearings give the same rows of lives.
use Rattle.std.proofs.Common.{rules, arith, ◌≡◌, List, [], ◌∷◌, map, Contains, refl, sym, ◌∙◌, subst, inl, inr}
use Rattle.std.specs.{List.{AllByRecursion}, List.Sorted.{IsStrictlySortedBy}, declared.cmp.Ordering.TheVariants.{Less}}
use Rattle.mdns_message.specs.{declared.{hearing.Hearing.{Hearing}, key.Key.{Key}}, Resource.{key_cmp}, laws.Resource.{key_cmp-total}}
use Rattle.mdns_cache.specs.Live.{SameHearings, key_of_last}
use Rattle.mdns_cache.proofs.StandsPartLemmas.{Contains-nil, Contains-head, Contains-later, Contains-cases, IsLast-among}
use Rattle.mdns_lives.specs.{declared.life.Life.{Life}, Chronicle.{AreAllLives}}
use Rattle.mdns_lives.proofs.{LawLemmas.{lives-among, one_list_among}, LiveLifeLemmas.{Row, row_record}}

abbrev AllAfter : Key → List Key → Type 0
AllAfter key keys = AllByRecursion (λ k. key_cmp key k ≡ Less) keys

after_first : (key : Key) (rows : List Row) (row : Row) → AllAfter key (map row_record rows) → Contains rows row
    → key_cmp key (row_record row) ≡ Less
after_first key [] row a m = absurd (Contains-nil row m)
after_first key (r ∷ rows) row a m = grind (arith, Contains-cases, after_first key rows row a.1)

not_before_itself : (key : Key) → key_cmp key key ≡ Less → ⊥
not_before_itself key l = grind (arith, key_cmp-total)

-- rows in key order with the same members are the same
same_rows : (xs ys : List Row) → IsStrictlySortedBy key_cmp (map row_record xs) → IsStrictlySortedBy key_cmp (map row_record ys)
    → ((row : Row) → Contains xs row → Contains ys row) → ((row : Row) → Contains ys row → Contains xs row) → xs ≡ ys
unfolding IsStrictlySortedBy
same_rows [] [] s t into back = refl
same_rows [] (y ∷ ys) s t into back = absurd (Contains-nil y (back y (Contains-head y ys)))
same_rows (x ∷ xs) [] s t into back = absurd (Contains-nil x (into x (Contains-head x xs)))
same_rows (x ∷ xs) (y ∷ ys) s t into back =
    let first : x ≡ y = elim (Contains-cases y ys x (into x (Contains-head x xs))) [
      | inl same ↦ sym same
      | inr later ↦ elim (Contains-cases x xs y (back y (Contains-head y ys))) [
        | inl same ↦ same
        | inr after ↦ absurd (not_before_itself (row_record x) (key_cmp-total.trans (row_record x) (row_record y) (row_record x)
            (after_first (row_record x) xs y s.0 after) (after_first (row_record y) ys x t.0 later)))
      ]
    ] in
    let rest : xs ≡ ys = same_rows xs ys s.1 t.1
    (λ row m. elim (Contains-cases y ys row (into row (Contains-later x xs row m))) [
      | inl same ↦ absurd (not_before_itself (row_record x) (subst (λ (r : Row). key_cmp (row_record x) (row_record r) ≡ Less)
          (sym (first ∙ same)) (after_first (row_record x) xs row s.0 m)))
      | inr later ↦ later
    ])
    (λ row m. elim (Contains-cases x xs row (back row (Contains-later y ys row m))) [
      | inl same ↦ absurd (not_before_itself (row_record y) (subst (λ (r : Row). key_cmp (row_record y) (row_record r) ≡ Less)
          (sym (sym first ∙ same)) (after_first (row_record y) ys row t.0 m)))
      | inr later ↦ later
    ]) in
    λ i. first i ∷ rest i

rows_within : (heard others : List Hearing) (xs ys : List Row) → SameHearings heard others → AreAllLives heard xs
    → AreAllLives others ys → (row : Row) → Contains xs row → Contains ys row
rows_within heard others xs ys same p q row m =
    let parts = p.each row.0 row.1 m in
    let found = q.all (key_of_last row.0) row.0 (IsLast-among heard others same (key_of_last row.0) row.0 parts.0) in
    let lives = one_list_among heard others (key_of_last row.0) row.1 found.0 same parts.1 (q.each row.0 found.0 found.1).1 in
    subst (λ (ls : List Life). Contains ys (row.0, ls)) (sym lives) found.1

pub one_all_rows : (heard others : List Hearing) (xs ys : List Row) → SameHearings heard others → AreAllLives heard xs
    → AreAllLives others ys → xs ≡ ys
one_all_rows heard others xs ys same p q = search (rules, same_rows, rows_within)

pub shared_rows : (heard others : List Hearing) (rows : List Row) → SameHearings heard others → AreAllLives heard rows
    → AreAllLives others rows
shared_rows heard others rows same p =
    let back : SameHearings others heard = record { into = same.back; back = same.into } in
    record {
      ascending = p.ascending;
      each = λ l lives m. (let parts = p.each l lives m in (
        IsLast-among heard others same (key_of_last l) l parts.0,
        lives-among heard others (key_of_last l) lives same parts.1,
      ));
      all = λ key l last. p.all key l (IsLast-among others heard back key l last);
    }
