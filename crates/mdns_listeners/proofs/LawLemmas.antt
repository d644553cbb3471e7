-- The laws of the rows of what listeners heard.
use Rattle.std.proofs.lemmas.{Bool.Decides.{nat_tests}, List.Sorted.{sum_by-IsPermutation}, List.Sums.{sum_by-cons}}
use Rattle.std.proofs.{lemmas.Map.Lookups.{exact_bytes}, Common.{◌≡◌, ℕ, ◌+◌, Bool, true, false, cond, List, [], ◌∷◌}}
use Rattle.std.proofs.Common.{◌++◌, map, refl, sym, ap, ◌∙◌, subst, arith, zero-add}
use Rattle.std.specs.{Cmp.Lexicographic.{slice_cmp, nat_list_cmp_total}, List.{filter, sum_by}}
use Rattle.std.specs.{List.Sorted.{IsPermutation, IsStrictlySortedBy}, Map.{keys_of}, Option.{option_map}, Ordering.{nat_cmp}}
use Rattle.join_map.specs.{Entries.{value_at, joined, joined_at}, laws.Entries.{sorted-joined, value_at-join}}
use Rattle.mdns_listeners.specs.{declared.heard_message.HeardAt.{HeardAt}, HeardMessage.{AreHeardIn, HeardRow, Told, is_same, messages_of, row_at}}
use Rattle.mdns_listeners.specs.{HeardMessage.{some_times, times_of}, Parts.{joined_rows}}
use Rattle.mdns_listeners.proofs.HeardLemmas.{Entry, entries_of, keys-entries, one-list, row_at-entries, row_of}
use Rattle.mdns_listeners.proofs.HeardLemmas.{some_times-append, times_of-append}

pub one-list-heard : (all : List Told) (rows others : List HeardRow) → AreHeardIn all rows → AreHeardIn all others → rows ≡ others
one-list-heard all rows others heard again = grind (arith, one-list)

-- ---- parts

pub heard-nothing : AreHeardIn [] []
unfolding IsStrictlySortedBy
heard-nothing = record { ascending = tt; right = λ m. refl }

messages-rows : (es : List Entry) → messages_of (map row_of es) ≡ keys_of es
messages-rows [] = refl
messages-rows (e ∷ es) = ap (λ ms. e.0 ∷ ms) (messages-rows es)

entries-rows : (es : List Entry) → entries_of (map row_of es) ≡ es
entries-rows [] = refl
entries-rows (e ∷ es) = ap (λ l. e ∷ l) (entries-rows es)

pub heard-joined : (all more : List Told) (rows others : List HeardRow) → AreHeardIn all rows → AreHeardIn more others
    → AreHeardIn (all ++ more) (joined_rows rows others)
heard-joined all more rows others heard next =
    let both : List HeardAt → List HeardAt → List HeardAt = λ one other. one ++ other in
    let es = joined (slice_cmp nat_cmp) both (entries_of rows) (entries_of others) in
    let sorted = subst (IsStrictlySortedBy (slice_cmp nat_cmp)) (sym (keys-entries rows)) heard.ascending in
    let sorted_next = subst (IsStrictlySortedBy (slice_cmp nat_cmp)) (sym (keys-entries others)) next.ascending in
    record {
      ascending = grind (arith, messages-rows, sorted-joined, nat_list_cmp_total, exact_bytes);
      right = λ m.
          row_at-entries m (map row_of es)
          ∙ ap (value_at (slice_cmp nat_cmp) m) (entries-rows es)
          ∙ value_at-join nat_list_cmp_total exact_bytes both m (entries_of rows) (entries_of others) sorted sorted_next
          ∙ (λ i. joined_at both ((sym (row_at-entries m rows) ∙ heard.right m) i) ((sym (row_at-entries m others) ∙ next.right m) i))
          ∙ some_times-append (times_of m all) (times_of m more)
          ∙ ap some_times (sym (times_of-append m all more));
    }

-- ---- order

-- what a told time adds to the sum of a message's times
abbrev adds : (HeardAt → ℕ) → List ℕ → Told → ℕ
adds f m told = cond (is_same m told.message) (f told.at) 0

sum-step : (f : HeardAt → ℕ) (m : List ℕ) (told : Told) (all : List Told) → sum_by f (times_of m all) ≡ sum_by (adds f m) all → (b : Bool)
    → sum_by f (map (λ t. t.at) (cond b (told ∷ filter (λ t. is_same m t.message) all) (filter (λ t. is_same m t.message) all)))
    ≡ cond b (f told.at) 0 + sum_by (adds f m) all
sum-step f m told all rest true = sum_by-cons f told.at (times_of m all) ∙ ap (λ n. f told.at + n) rest
sum-step f m told all rest false = rest ∙ sym (zero-add (sum_by (adds f m) all))

-- the sum of a message's times, over all that was told
told_sum : (f : HeardAt → ℕ) (m : List ℕ) (all : List Told) → sum_by f (times_of m all) ≡ sum_by (adds f m) all
told_sum f m [] = refl
told_sum f m (told ∷ all) =
    sum-step f m told all (told_sum f m all) (is_same m told.message) ∙ sym (sum_by-cons (adds f m) told all)

pub sums-permuted : (f : HeardAt → ℕ) (m : List ℕ) (all others : List Told) → IsPermutation all others
    → sum_by f (times_of m others) ≡ sum_by f (times_of m all)
sums-permuted f m all others moved = grind (arith, nat_tests, sum_by-IsPermutation, told_sum)

abbrev no_times : List HeardAt → List HeardAt
no_times times = []

-- as many times are none of both, or some
some-or-none : (xs ys : List HeardAt) → sum_by (λ (t : HeardAt). 1) xs ≡ sum_by (λ (t : HeardAt). 1) ys
    → option_map no_times (some_times xs) ≡ option_map no_times (some_times ys)
some-or-none [] [] h = refl
some-or-none [] (y ∷ ys) h = absurd (omega (arith, h, sum_by-cons (λ (t : HeardAt). 1) y ys))
some-or-none (x ∷ xs) [] h = absurd (omega (arith, h, sum_by-cons (λ (t : HeardAt). 1) x xs))
some-or-none (x ∷ xs) (y ∷ ys) h = refl

-- rows without their times
bare : List HeardRow → List HeardRow
bare rows = map (λ row. record { message = row.message; times = [] }) rows

messages-bare : (rows : List HeardRow) → messages_of (bare rows) ≡ messages_of rows
unfolding bare
messages-bare [] = refl
messages-bare (row ∷ rows) = ap (λ ms. row.message ∷ ms) (messages-bare rows)

row_at-bare : (m : List ℕ) (rows : List HeardRow) → row_at m (bare rows) ≡ option_map no_times (row_at m rows)
unfolding bare
row_at-bare m [] = refl
row_at-bare m (row ∷ rows) = grind (arith, nat_tests, row_at-bare m rows)

pub messages-permuted : (all others : List Told) (rows more : List HeardRow) → IsPermutation all others → AreHeardIn all rows
    → AreHeardIn others more → messages_of rows ≡ messages_of more
messages-permuted all others rows more moved heard again =
    let same : bare rows ≡ bare more =
    grind (arith, one-list, messages-bare, row_at-bare, some-or-none, sums-permuted) in
    sym (messages-bare rows) ∙ ap messages_of same ∙ messages-bare more
