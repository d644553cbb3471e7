-- The messages of a sender stand together where messages ascend.
use Rattle.std.proofs.Common.{◌≡◌, ℕ, suc, zero, ◌+◌, ◌<◌, ◌≤◌, Bool, true, false, not}
use Rattle.std.proofs.Common.{cond, eqb, List, [], ◌∷◌, ◌++◌, length, take, drop, get_or}
use Rattle.std.proofs.Common.{Less, arith, refl, ap, sym, ◌∙◌, subst, inl, inr, ⊎_elim, append_assoc}
use Rattle.std.proofs.lemmas.{Bool.{cases_eq, cases_lt, false≢true}, List.{get_or-map, length-map}, Map.Keys.{Less-from_sorted}}
use Rattle.std.proofs.lemmas.{Bool.Decides.{nat_tests}, List.{length-drop, length-take-le}, Slice.Eq.{bytes_eq-Decides}}
use Rattle.std.specs.{Cmp.Lexicographic.{slice_cmp}, List.{All, filter, flat_map}}
use Rattle.std.specs.{List.Sorted.{IsPartitionPoint, IsPartitionedBy, IsStrictlySortedBy}, Ordering.{nat_cmp}, Str.{bytes_eq}}
use Rattle.mdns_listeners.specs.{HeardMessage.{HasWholeAddress, HeardRow, messages_of}, Numbers.{FileSpans}}
use Rattle.mdns_listeners.specs.Senders.{is_from, rows_from, rows_of_sender, sender_in, sender_length, sender_rows, senders}
use Rattle.mdns_listeners.specs.declared.senders.SenderRow.{SenderRow}
use Rattle.std.proofs.lemmas.List.Elements.{All-drop}

-- ---- a message between two of a sender is of that sender

head_le : (x y : ℕ) (xs ys : List ℕ) → slice_cmp nat_cmp (x ∷ xs) (y ∷ ys) ≡ Less → x ≤ y
head_le x y xs ys h = grind (arith, nat_tests)

tail_below : (x y : ℕ) (xs ys : List ℕ) → x ≡ y → slice_cmp nat_cmp (x ∷ xs) (y ∷ ys) ≡ Less → slice_cmp nat_cmp xs ys ≡ Less
tail_below x y xs ys e h = grind (arith, nat_tests)

between : (n : ℕ) (xs ys zs : List ℕ) → slice_cmp nat_cmp xs ys ≡ Less → slice_cmp nat_cmp ys zs ≡ Less
    → take n xs ≡ take n zs → take n ys ≡ take n xs
between zero xs ys zs below above e = refl
between (suc n) [] [] zs below above e = refl
between (suc n) [] (y ∷ ys) [] below above e = cc
between (suc n) [] (y ∷ ys) (z ∷ zs) below above e = cc
between (suc n) (x ∷ xs) [] zs below above e = cc
between (suc n) (x ∷ xs) (y ∷ ys) [] below above e = cc
between (suc n) (x ∷ xs) (y ∷ ys) (z ∷ zs) below above e =
    let first : x ≡ z = cc in
    let rest : take n xs ≡ take n zs = cc in
    let up = head_le x y xs ys below in
    let down = head_le y z ys zs above in
    let same : y ≡ x = omega arith in
    let behind = between n xs ys zs (tail_below x y xs ys (sym same) below) (tail_below y z ys zs (same ∙ first) above) rest in
    λ i. same i ∷ behind i

first_octet : (n : ℕ) (xs : List ℕ) → get_or (take (suc n) xs) 0 0 ≡ get_or xs 0 0
first_octet n [] = refl
first_octet n (x ∷ xs) = refl

-- the first octet of the bytes of a sender is that of the message
kind-kept : (xs : List ℕ) → get_or (sender_in xs) 0 0 ≡ get_or xs 0 0
kind-kept xs = grind (arith, nat_tests, first_octet)

same_by_length : (n : ℕ) (xs ys zs : List ℕ) → slice_cmp nat_cmp xs ys ≡ Less → slice_cmp nat_cmp ys zs ≡ Less
    → sender_length xs ≡ suc n → take (suc n) xs ≡ take (suc n) zs → sender_in ys ≡ take (suc n) xs
same_by_length n xs ys zs below above e f = grind (arith, nat_tests, between, first_octet)

by_kind : (b : Bool) (xs ys zs : List ℕ) → slice_cmp nat_cmp xs ys ≡ Less → slice_cmp nat_cmp ys zs ≡ Less
    → eqb (get_or xs 0 0) 4 ≡ b → take (cond b 5 17) xs ≡ take (cond b 5 17) zs → sender_in ys ≡ take (cond b 5 17) xs
by_kind true xs ys zs below above e f = same_by_length 4 xs ys zs below above (ap (λ (c : Bool). cond c 5 17) e) f
by_kind false xs ys zs below above e f = same_by_length 16 xs ys zs below above (ap (λ (c : Bool). cond c 5 17) e) f

same_sender : (xs ys zs : List ℕ) → slice_cmp nat_cmp xs ys ≡ Less → slice_cmp nat_cmp ys zs ≡ Less
    → sender_in xs ≡ sender_in zs → sender_in ys ≡ sender_in xs
same_sender xs ys zs below above e = grind (arith, nat_tests, by_kind, kind-kept)

-- the messages of the first one's sender are before the others
parted : (row : HeardRow) (rows : List HeardRow) → IsStrictlySortedBy (slice_cmp nat_cmp) (messages_of (row ∷ rows))
    → IsPartitionedBy (is_from (sender_in row.message)) (row ∷ rows)
parted row rows up zero j d le within from = (bytes_eq-Decides (sender_in row.message) (sender_in row.message)).1 refl
parted row rows up (suc i) j d le within from = ⊎_elim
    (λ before. (bytes_eq-Decides _ _).1 (same_sender row.message (at (suc i)).message (at j).message
    (below 0 (suc i) (omega arith) (omega arith)) (below (suc i) j before within) (sym ((bytes_eq-Decides _ _).0 from))))
    (λ not_before. (let same : j ≡ suc i = omega arith in subst (λ k. is_from (sender_in row.message) (at k) ≡ true) same from))
    (cases_lt (suc i) j)
  where
    at : ℕ → HeardRow
    at k = get_or (row ∷ rows) k d

    below : (k l : ℕ) → k < l → l < length (row ∷ rows) → slice_cmp nat_cmp (at k).message (at l).message ≡ Less
    below k l before within =
        grind (arith, get_or-map, length-map, Less-from_sorted (slice_cmp nat_cmp) (messages_of (row ∷ rows)) k l [] up before)

front : {X : Type 0} (test : X → Bool) (xs : List X) (n : ℕ) → IsPartitionPoint (λ x. test x ≡ true) (λ x. test x ≡ false) xs n
    → (filter test xs ≡ take n xs) × (filter (λ x. not (test x)) xs ≡ drop n xs)
front test [] zero at = (refl, refl)
front test [] (suc n) at = (refl, refl)
front test (x ∷ xs) zero at =
    let here = at.1 0 x (omega arith) (omega arith) in
    let rest = front test xs zero (λ k d low high. absurd (omega arith), λ k d low high. at.1 (suc k) d (omega arith) (omega arith)) in
    grind arith
front test (x ∷ xs) (suc n) at =
    let here = at.0 0 x (omega arith) (omega arith) in
    let rest = front test xs n
    (λ k d low high. at.0 (suc k) d (omega arith) (omega arith), λ k d low high. at.1 (suc k) d (omega arith) (omega arith)) in
    grind arith

-- ---- the senders without one of them are those of the messages that aren't from it

filter-swap : {X : Type 0} (p q : X → Bool) (xs : List X) → filter p (filter q xs) ≡ filter q (filter p xs)
filter-swap p q [] = refl
filter-swap p q (x ∷ xs) = grind (arith, nat_tests, filter-swap p q xs)

filter-within : {X : Type 0} (p q : X → Bool) → ((x : X) → p x ≡ true → q x ≡ true) → (xs : List X) → filter p (filter q xs) ≡ filter p xs
filter-within p q within [] = refl
filter-within p q within (x ∷ xs) = grind (arith, nat_tests, cases_eq, within, filter-within p q within xs)

flat_map-within : {X A : Type 0} (f g : X → List A) (p : X → Bool) → ((x : X) → p x ≡ true → f x ≡ g x) → (xs : List X)
    → flat_map f (filter p xs) ≡ flat_map g (filter p xs)
flat_map-within f g p same [] = refl
flat_map-within f g p same (x ∷ xs) = grind (arith, nat_tests, cases_eq, same, flat_map-within f g p same xs)

module _ (sender : List ℕ) where
  abbrev is_other : List ℕ → Bool
  is_other other = not (bytes_eq other sender)

  abbrev others_of : List HeardRow → List HeardRow
  others_of rows = filter (λ row. not (is_from sender row)) rows

  senders-others : (rows : List HeardRow) → filter is_other (senders rows) ≡ senders (others_of rows)
  senders-others [] = refl
  senders-others (row ∷ rows) = grind (arith, nat_tests, bytes_eq-Decides, filter-swap, filter-within, senders-others rows)

  rows_from-others : (rows : List HeardRow) (other : List ℕ) → is_other other ≡ true
      → rows_from other (others_of rows) ≡ rows_from other rows
  rows_from-others rows other differ = filter-within (is_from other) (λ row. not (is_from sender row))
      (λ row own. ap is_other ((bytes_eq-Decides (sender_in row.message) other).0 own) ∙ differ) rows

-- ---- the step of the loop, with the names that the code has for the first message, its sender and how many it has

abbrev pub IsCount : List ℕ → List HeardRow → ℕ → Type 0
IsCount sender rows n = IsPartitionedBy (is_from sender) rows
    → IsPartitionPoint (λ row. is_from sender row ≡ true) (λ row. is_from sender row ≡ false) rows n

rest_step : (spans : List FileSpans) (rest : List HeardRow) (first : HeardRow) (sender : List ℕ) (n : ℕ) → 0 < length rest
    → first ≡ get_or rest 0 first → sender ≡ sender_in first.message → IsCount sender rest n
    → IsStrictlySortedBy (slice_cmp nat_cmp) (messages_of rest)
    → (0 < n) × (sender_rows rest spans ≡ rows_of_sender spans sender (take n rest) ++ sender_rows (drop n rest) spans)
rest_step spans [] first sender n some is named count up = absurd (omega arith)
rest_step spans (row ∷ rows) first sender n some is named count up =
    let own : sender ≡ sender_in row.message = named ∙ ap (λ (r : HeardRow). sender_in r.message) is in
    subst (λ s. (0 < n) × (sender_rows (row ∷ rows) spans
    ≡ rows_of_sender spans s (take n (row ∷ rows)) ++ sender_rows (drop n (row ∷ rows)) spans)) (sym own)
    (at_own (subst (λ s. IsCount s (row ∷ rows) n) own count (parted row rows up)))
  where
    sender_own : List ℕ
    sender_own = sender_in row.message

    itself : is_from sender_own row ≡ true
    itself = (bytes_eq-Decides sender_own sender_own).1 refl

    skips : others_of sender_own rows ≡ others_of sender_own (row ∷ rows)
    skips = sym (ap (λ b. cond (not b) (row ∷ others_of sender_own rows) (others_of sender_own rows)) itself)

    at_own : IsPartitionPoint (λ other. is_from sender_own other ≡ true) (λ other. is_from sender_own other ≡ false) (row ∷ rows) n
        → (0 < n) × (sender_rows (row ∷ rows) spans
        ≡ rows_of_sender spans sender_own (take n (row ∷ rows)) ++ sender_rows (drop n (row ∷ rows)) spans)
    at_own at =
        let parts = front (is_from sender_own) (row ∷ rows) n at in
        let behind = flat_map-within (λ other. rows_of_sender spans other (rows_from other (row ∷ rows)))
        (λ other. rows_of_sender spans other (rows_from other (others_of sender_own (row ∷ rows)))) (is_other sender_own)
        (λ other differ. ap (rows_of_sender spans other) (sym (rows_from-others sender_own (row ∷ rows) other differ))) (senders rows)
        ∙ ap (flat_map (λ other. rows_of_sender spans other (rows_from other (others_of sender_own (row ∷ rows)))))
        (senders-others sender_own rows ∙ ap senders skips) ∙ ap (λ rs. sender_rows rs spans) parts.1 in (
          ⊎_elim (λ less. less) (λ none. absurd (false≢true (sym (at.1 0 row (omega (arith, none)) (omega arith)) ∙ itself)))
              (cases_lt 0 n),
          λ i. rows_of_sender spans sender_own (parts.0 i) ++ behind i,
        )

pub rest_shorter : (spans : List FileSpans) (rest back : List HeardRow) (first : HeardRow) (sender : List ℕ) (n : ℕ) → 0 < length rest
    → first ≡ get_or rest 0 first → sender ≡ sender_in first.message → IsCount sender rest n
    → IsStrictlySortedBy (slice_cmp nat_cmp) (messages_of rest) → back ≡ drop n rest → length back < length rest
rest_shorter spans rest back first sender n some is named count up split =
    let own = (rest_step spans rest first sender n some is named count up).0 in grind (arith, length-drop)

pub up-drop : (n : ℕ) (rows : List HeardRow) → IsStrictlySortedBy (slice_cmp nat_cmp) (messages_of rows)
    → IsStrictlySortedBy (slice_cmp nat_cmp) (messages_of (drop n rows))
unfolding IsStrictlySortedBy
up-drop zero rows up = up
up-drop (suc n) [] up = tt
up-drop (suc n) (row ∷ rows) up = up-drop n rows up.1

-- the bytes of the sender have its address
pub whole-sender : (message : List ℕ) → HasWholeAddress message → HasWholeAddress (sender_in message)
whole-sender message (inl (kind, long)) = grind (arith, nat_tests, kind-kept, length-take-le)
whole-sender message (inr (kind, long)) = grind (arith, nat_tests, kind-kept, length-take-le)

pub first_whole : (rest : List HeardRow) (first : HeardRow) (sender : List ℕ) → 0 < length rest
    → first ≡ get_or rest 0 first → sender ≡ sender_in first.message
    → All (λ (row : HeardRow). HasWholeAddress row.message) rest → HasWholeAddress sender
first_whole [] first sender some is named all = absurd (omega arith)
first_whole (row ∷ rows) first sender some is named all = grind (arith, whole-sender row.message (all 0 row (omega arith)))

-- the rows so far, and those of the senders behind
pub sender_more : (spans : List FileSpans) (rest front back : List HeardRow) (first : HeardRow) (sender : List ℕ) (n : ℕ)
    (ys zs total : List SenderRow) → 0 < length rest → first ≡ get_or rest 0 first → sender ≡ sender_in first.message
    → IsCount sender rest n → IsStrictlySortedBy (slice_cmp nat_cmp) (messages_of rest)
    → front ≡ take n rest → back ≡ drop n rest → zs ≡ ys ++ rows_of_sender spans sender front
    → ys ++ sender_rows rest spans ≡ total → zs ++ sender_rows back spans ≡ total
sender_more spans rest front back first sender n ys zs total some is named count up own split push before =
    let step = (rest_step spans rest first sender n some is named count up).1 in
    grind (arith, append_assoc, step)

-- WHAT FUNCTIONS ARE PROVED BY

pub ruleset for_sender_rows = (first_whole, up-drop, All-drop)
