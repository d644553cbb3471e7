-- How each different one of sorted messages gets a row.
use Rattle.std.proofs.lemmas.{Bool.Decides.{nat_tests}, Bool.{cases_eq, cases_lt}}
use Rattle.std.proofs.lemmas.List.{get_or_append_left, get_or-map, get_or_push, get_or-set_other, get_or-set_same, length-map, length_push}
use Rattle.std.proofs.lemmas.{List.{map_push}, List.Elements.{All-nil, All-push, recursion_from_All}, List.Sorted.{ranks_by, sorted_far}}
use Rattle.std.proofs.lemmas.Map.{Keys.{Less-from_sorted, sorted_from_all_adjacent}, Lookups.{exact_bytes}}
use Rattle.std.proofs.Common.{◌≡◌, ℕ, suc, ◌+◌, ◌-◌, ◌<◌, ◌≤◌, ◌⊎◌, inl, inr, false, Ordering, Less, Equal, Greater, append_assoc}
use Rattle.std.proofs.Common.{List, [], ◌∷◌, ◌++◌, length, map, get_or, set, refl, sym, ap, ◌∙◌, subst, arith, true≢false}
use Rattle.std.specs.{Cmp.Lexicographic.{slice_cmp, nat_list_cmp_total}, List.{All, AllByRecursion}, List.Sorted.{IsStrictlySortedBy}}
use Rattle.std.specs.Ordering.{nat_cmp, is_lt, ordering_reverse}
use Rattle.mdns_listeners.specs.HeardMessage.{HeardRow, messages_of}
use Rattle.mdns_listeners.specs.KeptMessage.{AddsRow, ArePlaced, AreSorted, IsNumbered, KeptMessage, filled, is_below, last_message}
use Rattle.mdns_listeners.proofs.RowLemmas.{all-front, all-middle}

abbrev Ascend : List HeardRow → Type 0
Ascend rows = IsStrictlySortedBy (slice_cmp nat_cmp) (messages_of rows)

-- ---- sorted messages

-- no message is below this one
abbrev pub NoneBelow : List ℕ → List KeptMessage → Type 0
NoneBelow m rest = AllByRecursion (λ one. is_lt (slice_cmp nat_cmp one.message m) ≡ false) rest

-- no message is below one before it
abbrev pub Sorted : List KeptMessage → Type 0
Sorted [] = Unit {0}
Sorted (one ∷ rest) = NoneBelow one.message rest × Sorted rest

sorted-far : (kept : List KeptMessage)
    → ((i j : ℕ) (d : KeptMessage) → i ≤ j → j < length kept → is_below (get_or kept j d) (get_or kept i d) ≡ false) → Sorted kept
sorted-far [] far = tt
sorted-far (one ∷ rest) far = (
  recursion_from_All (λ other. is_lt (slice_cmp nat_cmp other.message one.message) ≡ false) rest
      (λ k d l. far 0 (suc k) d (omega arith) (omega arith)),
  sorted-far rest (λ i j d le l. far (suc i) (suc j) d (omega arith) (omega arith)),
)

pub sorted-recursion : (kept : List KeptMessage) → AreSorted kept → Sorted kept
sorted-recursion kept s =
    sorted-far kept (λ i j d le l. sorted_far is_below (ranks_by nat_list_cmp_total (λ (one : KeptMessage). one.message)) kept s i j d le l)

-- ---- a row more

-- what the last row is read as
pub last_read : (rows : List HeardRow) (last : HeardRow) → 0 < length rows → last ≡ get_or rows (length rows - 1) last
    → last_message rows ≡ last.message
last_read rows last some is = grind (arith, get_or-map)

last-push : (rows : List HeardRow) (row : HeardRow) → last_message (rows ++ row ∷ []) ≡ row.message
last-push rows row = grind (arith, nat_tests, get_or_push, length-map, length_push, map_push)

below-last : (last m : List ℕ) → is_lt (slice_cmp nat_cmp m last) ≡ false → (last ≡ m → ⊥) → slice_cmp nat_cmp last m ≡ Less
below-last last m h differs = by (slice_cmp nat_cmp last m) refl
  where
    by : (o : Ordering) → slice_cmp nat_cmp last m ≡ o → slice_cmp nat_cmp last m ≡ Less
    by Less e = e
    by Equal e = absurd (differs (exact_bytes last m e))
    by Greater e = absurd (true≢false (sym (ap is_lt (nat_list_cmp_total.antisymm m last ∙ ap ordering_reverse e)) ∙ h))

ascend-next : (ms : List (List ℕ)) (m : List ℕ) (n : ℕ) → length ms ≡ n → IsStrictlySortedBy (slice_cmp nat_cmp) ms
    → (0 < n → slice_cmp nat_cmp (get_or ms (n - 1) []) m ≡ Less) → (k : ℕ) → k + 1 < length (ms ++ m ∷ [])
    → (k + 1 < length ms) ⊎ (length ms ≤ k + 1)
    → slice_cmp nat_cmp (get_or (ms ++ m ∷ []) k []) (get_or (ms ++ m ∷ []) (k + 1) []) ≡ Less
ascend-next ms m n long s h k l (inl less) = grind (arith, nat_tests, Less-from_sorted, get_or_append_left)
ascend-next ms m n long s h k l (inr last) = grind (arith, nat_tests, get_or_append_left, get_or_push, length_push)

ascend-push : (rows : List HeardRow) (row : HeardRow) → Ascend rows
    → (0 < length rows → slice_cmp nat_cmp (last_message rows) row.message ≡ Less) → Ascend (rows ++ row ∷ [])
ascend-push rows row s h =
    let ms = messages_of rows in
    let long : length ms ≡ length rows = length-map rows (λ r. r.message) in
    subst (IsStrictlySortedBy (slice_cmp nat_cmp)) (sym (map_push (λ (r : HeardRow). r.message) rows row))
    (sorted_from_all_adjacent nat_list_cmp_total (ms ++ row.message ∷ []) []
    (λ k l. ascend-next ms row.message (length rows) long s h k l (cases_lt (k + 1) (length ms))))

blank-push : (rows : List HeardRow) (m : List ℕ) → map (filled []) rows ≡ rows
    → map (filled []) (rows ++ record { message = m; times = [] } ∷ []) ≡ rows ++ record { message = m; times = [] } ∷ []
blank-push rows m h = grind (arith, map_push)

-- what holds of the rows, as far as the messages were made rows
pub record BlankRows (kept done rest : List KeptMessage) (rows : List HeardRow) (numbers : List ℕ) : Type 0 where
  pub left : kept ≡ done ++ rest
  pub ascending : IsStrictlySortedBy (slice_cmp nat_cmp) (messages_of rows)
  pub blank : map (filled []) rows ≡ rows
  pub above : 0 < length rows → NoneBelow (last_message rows) rest
  pub sorted : Sorted rest
  pub numbered : All (IsNumbered rows numbers) done

none-ascend : IsStrictlySortedBy (slice_cmp nat_cmp) []
unfolding IsStrictlySortedBy
none-ascend = tt

pub blank-none : (kept rest : List KeptMessage) (rows : List HeardRow) (numbers : List ℕ) → AreSorted kept → rest ≡ kept → rows ≡ []
    → BlankRows kept [] rest rows numbers
blank-none kept rest rows numbers s all none = grind (arith, none-ascend, sorted-recursion, All-nil)

-- rows after one was added for a message, or none
record Added (rows more : List HeardRow) (m : List ℕ) : Type 0 where
  some : 0 < length more
  last : last_message more ≡ m
  ascending : IsStrictlySortedBy (slice_cmp nat_cmp) (messages_of more)
  blank : map (filled []) more ≡ more
  longer : length rows ≤ length more
  keeps : (n : ℕ) → n < length rows → get_or (messages_of more) n [] ≡ get_or (messages_of rows) n []

added : (rows more : List HeardRow) (m : List ℕ) → Ascend rows → map (filled []) rows ≡ rows
    → (0 < length rows → is_lt (slice_cmp nat_cmp m (last_message rows)) ≡ false) → AddsRow rows m more → Added rows more m
added rows more m s blank above (inl same) = grind arith
added rows more m s blank above (inr new) =
    let row : HeardRow = record { message = m; times = [] } in
    subst (λ rs. Added rows rs m) (sym new.1) (record {
      some = omega (arith, length_push rows row);
      last = last-push rows row;
      ascending = ascend-push rows row s (λ l. below-last (last_message rows) m (above l) (new.0 l));
      blank = blank-push rows m blank;
      longer = omega (arith, length_push rows row);
      keeps = λ n l. ap (λ ms. get_or ms n []) (map_push (λ (r : HeardRow). r.message) rows row)
          ∙ get_or_append_left (messages_of rows) (m ∷ []) [] n (omega (arith, length-map rows (λ r. r.message)));
    })

numbered-kept : (rows more : List HeardRow) (numbers : List ℕ) (messages : List (List ℕ)) (one other : KeptMessage) (number : ℕ)
    → Added rows more one.message → number + 1 ≡ length more → one.place < length numbers
    → get_or messages one.place [] ≡ one.message → get_or messages other.place [] ≡ other.message → IsNumbered rows numbers other
    → IsNumbered more (set numbers one.place number) other
numbered-kept rows more numbers messages one other number new last room is its old =
    grind (arith, cases_eq, get_or-set_same, get_or-set_other)

numbered-own : (rows more : List HeardRow) (numbers : List ℕ) (one : KeptMessage) (number : ℕ) → Added rows more one.message
    → number + 1 ≡ length more → one.place < length numbers → IsNumbered more (set numbers one.place number) one
numbered-own rows more numbers one number new last room = grind (arith, get_or-set_same)

pub placed-next : (kept done rest new : List KeptMessage) (one : KeptMessage) (messages : List (List ℕ)) → ArePlaced messages kept
    → kept ≡ done ++ rest → rest ≡ one ∷ new → one.place < length kept
placed-next kept done rest new one messages placed left first = grind (arith, nat_tests, all-middle, left)

blank-step : (kept done rest new : List KeptMessage) (one : KeptMessage) (rows more : List HeardRow) (numbers : List ℕ) (number : ℕ)
    (messages : List (List ℕ)) → ArePlaced messages kept → BlankRows kept done rest rows numbers → rest ≡ one ∷ new
    → AddsRow rows one.message more → number + 1 ≡ length more → one.place < length numbers
    → BlankRows kept (done ++ one ∷ []) new more (set numbers one.place number)
blank-step kept done rest new one rows more numbers number messages placed so_far first adds last room =
    let whole : kept ≡ done ++ one ∷ new = so_far.left ∙ ap (λ l. done ++ l) first in
    let sorted : Sorted (one ∷ new) = subst Sorted first so_far.sorted in
    let above : 0 < length rows → NoneBelow (last_message rows) (one ∷ new) =
    λ l. subst (NoneBelow (last_message rows)) first (so_far.above l) in
    let next = added rows more one.message so_far.ascending so_far.blank (λ l. (above l).0) adds in
    let Same : KeptMessage → Type 0 = λ o. get_or messages o.place [] ≡ o.message in
    let same : All Same (done ++ one ∷ new) = subst (All Same) whole placed.same in
    record {
      left = whole ∙ sym (append_assoc done (one ∷ []) new);
      ascending = next.ascending;
      blank = next.blank;
      above = λ l. subst (λ m. NoneBelow m new) (sym next.last) sorted.0;
      sorted = sorted.1;
      numbered = All-push (IsNumbered more (set numbers one.place number)) done one
          (λ k d l. numbered-kept rows more numbers messages one (get_or done k d) number next last room
          (all-middle Same done new one same) (all-front Same done (one ∷ new) same k d l) (so_far.numbered k d l))
          (numbered-own rows more numbers one number next last room);
    }

pub blank-more : (kept done rest new : List KeptMessage) (one : KeptMessage) (message : List ℕ) (place : ℕ) (rows more : List HeardRow)
    (numbers : List ℕ) (number : ℕ) (messages : List (List ℕ)) → ArePlaced messages kept → BlankRows kept done rest rows numbers
    → rest ≡ one ∷ new → message ≡ one.message → place ≡ one.place → AddsRow rows message more → number + 1 ≡ length more
    → one.place < length numbers → BlankRows kept (done ++ one ∷ []) new more (set numbers place number)
blank-more kept done rest new one message place rows more numbers number messages placed so_far first is at adds last room =
    grind (arith, blank-step kept done rest new one rows more numbers number messages placed so_far first)
