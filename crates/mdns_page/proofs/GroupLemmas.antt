-- Rows in groups by type.
use Rattle.std.proofs.Common.{◌≡◌, refl, sym, ◌∙◌, ap, subst, ℕ, suc, ◌+◌, ◌<◌, ◌≤◌, true, false}
use Rattle.std.proofs.Common.{if◌then◌else◌, List, [], ◌∷◌, ◌++◌, Bool, length, take, drop, map, get_or, arith}
use Rattle.std.proofs.lemmas.{Bool.{cond_both}, List.{append_assoc, append-nil, at_drop_all, drop_more, drop-map, take-map}, Simd.{map-map}}
use Rattle.std.specs.List.{flat_map}
use Rattle.mdns_browse.specs.Services.{same_text}
use Rattle.mdns_page.specs.Group.{AreGroups, following, grouped, grouped_with, leading}

-- a row, and those that follow it
pub count-first : (n : ℕ) (owner : List ℕ) (owners : List (List ℕ)) → n ≡ following owner owners → 1 + n ≡ leading (owner ∷ owners)
count-first n owner owners same = let counted : 1 + n ≡ suc (following owner owners) = omega (arith, same) in counted

module _ {R : Type 0} (owner : R → List ℕ) where
  -- a row before groups of which the first has a row that may be of its type
  grouped-before : (row other : R) (n : ℕ) (others : List R)
      → grouped owner (other ∷ others) ≡ (other ∷ take n others) ∷ grouped owner (drop n others) → (same : Bool)
      → (if same then (row ∷ other ∷ take n others) ∷ grouped owner (drop n others)
      else (row ∷ []) ∷ (other ∷ take n others) ∷ grouped owner (drop n others))
      ≡ (row ∷ take (if same then suc n else 0) (other ∷ others)) ∷ grouped owner (drop (if same then suc n else 0) (other ∷ others))
  grouped-before row other n others after true = refl
  grouped-before row other n others after false = ap (λ groups. (row ∷ []) ∷ groups) (sym after)

  -- how many rows after one are of its type and follow it directly
  abbrev after_row : R → List R → ℕ
  after_row row rows = following (owner row) (map owner rows)

  grouped-row : (row : R) (rows : List R)
      → grouped owner (row ∷ rows) ≡ (row ∷ take (after_row row rows) rows) ∷ grouped owner (drop (after_row row rows) rows)
  unfolding grouped
  grouped-row row [] = refl
  grouped-row row (other ∷ others) = grind (arith, grouped-before, grouped-row other others)

  -- the first group, and the others
  pub grouped-first : (n : ℕ) (rows : List R) → 0 < length rows → n ≡ leading (map owner rows)
      → grouped owner rows ≡ take n rows ∷ grouped owner (drop n rows)
  grouped-first n [] some count = absurd (omega (arith, some))
  grouped-first n (row ∷ rows) some count = grind (arith, grouped-row)

  -- ---- by the index of the first row that wasn't compared with the one before it

  -- the rows from an index on
  from_index : (rs : List R) (i : ℕ) (r : R) → i < length rs → r ≡ get_or rs i r
      → map owner (drop i rs) ≡ owner r ∷ map owner (drop (i + 1) rs)
  from_index rs i r within at = ap (map owner) (drop_more rs i r within) ∙ ap (λ first. owner first ∷ map owner (drop (i + 1) rs)) (sym at)

  -- what follows, where the two first are of one type, or aren't
  following-by : (rs : List R) (i : ℕ) (before r : R) (same : Bool) → i < length rs → r ≡ get_or rs i r
      → same_text (owner before) (owner r) ≡ same → following (owner before) (map owner (drop i rs))
      ≡ (if same then suc (following (owner r) (map owner (drop (i + 1) rs))) else 0)
  following-by rs i before r same within at is = grind (arith, from_index)

  pub following-more : (rs : List R) (i : ℕ) (before r : R) (count : ℕ) → i < length rs → r ≡ get_or rs i r
      → same_text (owner before) (owner r) ≡ true → count ≡ i + following (owner before) (map owner (drop i rs))
      → count ≡ (i + 1) + following (owner r) (map owner (drop (i + 1) rs))
  following-more rs i before r count within at same so_far = grind (arith, following-by rs i before r true within)

  pub following-end : (rs : List R) (i : ℕ) (before r : R) (count : ℕ) → i < length rs → r ≡ get_or rs i r
      → same_text (owner before) (owner r) ≡ false → count ≡ i + following (owner before) (map owner (drop i rs)) → i ≡ count
  following-end rs i before r count within at apart so_far = grind (arith, following-by rs i before r false within)

  pub following-all : (rs : List R) (i : ℕ) (before : R) (count : ℕ) → length rs ≤ i
      → count ≡ i + following (owner before) (map owner (drop i rs)) → i ≡ count
  following-all rs i before count past so_far = grind (arith, at_drop_all (λ rest. following (owner before) (map owner rest)) rs i past)

  -- ---- the groups one after another

  module _ {L : Type 0} (value : L → R) (text : List R → List ℕ) where
    -- one group more
    pub groups-more : (all old new : List ℕ) (rows : List L) (first : L) (others : List L) (len : ℕ) {front back : List L}
        → rows ≡ first ∷ others → front ≡ take len rows → back ≡ drop len rows
        → len ≡ leading (owner (value first) ∷ map (λ row. owner (value row)) others)
        → old ++ flat_map text (grouped owner (map value rows)) ≡ all → new ≡ old ++ text (map value front)
        → new ++ flat_map text (grouped owner (map value back)) ≡ all
    groups-more all old new rows first others len {front} {back} split taken left count before written =
        let rest : List ℕ = flat_map text (grouped owner (drop len (map value rows))) in
        let many : 0 < length (map value rows) = subst (λ rows. 0 < length (map value rows)) (sym split) (omega arith) in
        let groups = grouped-first len (map value rows) many
        (count ∙ sym (ap (λ rows. leading (map (λ row. owner (value row)) rows)) split) ∙ sym (ap leading (map-map owner value rows))) in
        grind (arith, drop-map, take-map, append_assoc)

    -- no group more
    pub groups-none : (all old : List ℕ) (rows : List L) → length rows ≡ 0
        → old ++ flat_map text (grouped owner (map value rows)) ≡ all → old ≡ all
    unfolding grouped
    groups-none all old [] none before = sym (append-nil old) ∙ before
    groups-none all old (row ∷ rows) none before = absurd (omega (arith, none))

  -- ---- what the groups are

  with-all : (row : R) (groups : List (List R))
      → flat_map (λ (group : List R). group) (grouped_with owner row groups)
      ≡ row ∷ flat_map (λ (group : List R). group) groups
  with-all row [] = refl
  with-all row ([] ∷ groups) = refl
  with-all row ((other ∷ others) ∷ groups) =
      cond_both (same_text (owner row) (owner other)) ((row ∷ other ∷ others) ∷ groups) ((row ∷ []) ∷ (other ∷ others) ∷ groups)
      (λ all. flat_map (λ (group : List R). group) all ≡ row ∷ flat_map (λ (group : List R). group) ((other ∷ others) ∷ groups))
      (λ _. refl) (λ _. refl)

  -- all rows are there, in their order
  pub grouped_all : (rows : List R) → flat_map (λ (group : List R). group) (grouped owner rows) ≡ rows
  unfolding grouped
  grouped_all [] = refl
  grouped_all (row ∷ rows) = with-all row (grouped owner rows) ∙ ap (λ rest. row ∷ rest) (grouped_all rows)

  with-types : (row : R) (groups : List (List R)) → AreGroups owner groups → AreGroups owner (grouped_with owner row groups)
  with-types row [] rest = (tt, tt)
  with-types row ([] ∷ groups) rest = absurd rest.0
  with-types row ((other ∷ others) ∷ groups) rest =
      cond_both (same_text (owner row) (owner other)) ((row ∷ other ∷ others) ∷ groups) ((row ∷ []) ∷ (other ∷ others) ∷ groups)
      (AreGroups owner) (λ is. ((is, rest.0), rest.1)) (λ _. (tt, rest))

  -- each group is of one type
  pub grouped_types : (rows : List R) → AreGroups owner (grouped owner rows)
  unfolding grouped
  grouped_types [] = tt
  grouped_types (row ∷ rows) = with-types row (grouped owner rows) (grouped_types rows)

-- WHAT FUNCTIONS ARE PROVED BY

pub ruleset for_following_len = (following-all, following-end, following-more)
