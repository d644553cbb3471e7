-- Rows of heard messages as entries of a map from messages to times.
use Rattle.std.proofs.lemmas.{Bool.Decides.{nat_tests}, List.{map-append}, List.Elements.{filter-append, All-head, All-tail}}
use Rattle.std.proofs.{lemmas.Map.Lookups.{exact_bytes}, Common.{Some, refl, sym, ap, ◌∙◌, subst, arith}}
use Rattle.std.proofs.Common.{◌≡◌, ℕ, zero, suc, ◌<◌, ◌⊎◌, inl, inr, Bool, true, false, cond, List, [], ◌∷◌, ◌++◌, length, map, get_or}
use Rattle.std.specs.{Cmp.{unsigned_ties}, Cmp.Lexicographic.{slice_cmp, lists_ties, bytes_decides, nat_list_cmp_total}, List.{All}}
use Rattle.std.specs.{List.Sorted.{IsStrictlySortedBy}, Map.{keys_of}, Ordering.{nat_cmp, is_eq}}
use Rattle.join_map.specs.{Entries.{value_at, joined_at}, laws.Entries.{same_entries}}
use Rattle.mdns_listeners.specs.declared.heard_message.HeardAt.{HeardAt}
use Rattle.mdns_listeners.specs.HeardMessage.{AreHeardIn, HasWholeAddress, HeardRow, Told, is_same, messages_of, row_at, some_times, times_of}

-- ---- messages

pub same-itself : (m : List ℕ) → is_same m m ≡ true
same-itself m = (bytes_decides m m).1 refl

pub same-is : (m n : List ℕ) → is_same m n ≡ true → m ≡ n
same-is m n h = (bytes_decides m n).0 h

same-ties : (m n : List ℕ) → is_same m n ≡ is_eq (slice_cmp nat_cmp m n)
same-ties m n = lists_ties nat_cmp unsigned_ties m n

-- ---- times

pub times_of-append : (m : List ℕ) (xs ys : List Told) → times_of m (xs ++ ys) ≡ times_of m xs ++ times_of m ys
times_of-append m xs ys = grind (arith, nat_tests, filter-append, map-append)

pub some_times-append : (xs ys : List HeardAt) → joined_at (λ a b. a ++ b) (some_times xs) (some_times ys) ≡ some_times (xs ++ ys)
some_times-append [] [] = refl
some_times-append [] (y ∷ ys) = refl
some_times-append (x ∷ xs) [] = ap (λ l. Some (x ∷ l)) (nil-right xs)
  where
    nil-right : (l : List HeardAt) → l ≡ l ++ []
    nil-right [] = refl
    nil-right (y ∷ l) = ap (λ k. y ∷ k) (nil-right l)
some_times-append (x ∷ xs) (y ∷ ys) = refl

whole-step : (m : List ℕ) (told : Told) (all : List Told) → HasWholeAddress told.message → (times_of m all ≡ []) ⊎ HasWholeAddress m
    → (b : Bool) → is_same m told.message ≡ b → (times_of m (told ∷ all) ≡ []) ⊎ HasWholeAddress m
whole-step m told all whole rest true e = inr (subst HasWholeAddress (sym (same-is m told.message e)) whole)
whole-step m told all whole (inl none) false e = grind arith
whole-step m told all whole (inr is) false e = inr is

-- a message that was told at some time has a whole address, where all that were told have
whole_or_none : (m : List ℕ) (all : List Told) → All (λ told. HasWholeAddress told.message) all
    → (times_of m all ≡ []) ⊎ HasWholeAddress m
whole_or_none m [] h = inl refl
whole_or_none m (told ∷ all) h =
    grind (arith, whole-step, All-head, All-tail, whole_or_none m all (All-tail (λ t. HasWholeAddress t.message) told all h))

-- each row is found by its message
row-found : (rows : List HeardRow) (k : ℕ) (d : HeardRow) → k < length rows
    → (times : List HeardAt) × (row_at (get_or rows k d).message rows ≡ Some times)
row-found [] k d l = absurd (omega arith)
row-found (row ∷ rows) zero d l = (row.times, ap (λ b. cond b (Some row.times) (row_at row.message rows)) (same-itself row.message))
row-found (row ∷ rows) (suc k) d l =
    by (is_same (get_or rows k d).message row.message) refl (row-found rows k d (omega arith))
  where
    by : (b : Bool) → is_same (get_or rows k d).message row.message ≡ b
        → (times : List HeardAt) × (row_at (get_or rows k d).message rows ≡ Some times)
        → (times : List HeardAt) × (row_at (get_or rows k d).message (row ∷ rows) ≡ Some times)
    by true e rest = (row.times, ap (λ b. cond b (Some row.times) (row_at (get_or rows k d).message rows)) e)
    by false e rest = (rest.0, ap (λ b. cond b (Some row.times) (row_at (get_or rows k d).message rows)) e ∙ rest.1)

pub heard-whole : (all : List Told) (rows : List HeardRow) → AreHeardIn all rows → All (λ told. HasWholeAddress told.message) all
    → All (λ row. HasWholeAddress row.message) rows
heard-whole all rows heard whole k d l = grind (arith, row-found rows k d l, whole_or_none ((get_or rows k d).message) all whole)

-- ---- entries

abbrev pub Entry : Type 0
Entry = List ℕ × List HeardAt

abbrev pub entry_of : HeardRow → Entry
entry_of row = (row.message, row.times)

abbrev pub row_of : Entry → HeardRow
row_of entry = record { message = entry.0; times = entry.1 }

abbrev pub entries_of : List HeardRow → List Entry
entries_of rows = map entry_of rows

pub keys-entries : (rows : List HeardRow) → keys_of (entries_of rows) ≡ messages_of rows
keys-entries [] = refl
keys-entries (row ∷ rows) = ap (λ ms. row.message ∷ ms) (keys-entries rows)

pub rows_entries : (rows : List HeardRow) → map row_of (entries_of rows) ≡ rows
rows_entries [] = refl
rows_entries (row ∷ rows) = ap (λ rs. row ∷ rs) (rows_entries rows)

pub row_at-entries : (m : List ℕ) (rows : List HeardRow) → row_at m rows ≡ value_at (slice_cmp nat_cmp) m (entries_of rows)
row_at-entries m [] = refl
row_at-entries m (row ∷ rows) = λ i. cond (same-ties m row.message i) (Some row.times) (row_at-entries m rows i)

pub one-list : (rows more : List HeardRow) → IsStrictlySortedBy (slice_cmp nat_cmp) (messages_of rows)
    → IsStrictlySortedBy (slice_cmp nat_cmp) (messages_of more) → ((m : List ℕ) → row_at m rows ≡ row_at m more) → rows ≡ more
one-list rows more s t h =
    let same : entries_of rows ≡ entries_of more = same_entries nat_list_cmp_total exact_bytes (entries_of rows) (entries_of more)
    (subst (IsStrictlySortedBy (slice_cmp nat_cmp)) (sym (keys-entries rows)) s)
    (subst (IsStrictlySortedBy (slice_cmp nat_cmp)) (sym (keys-entries more)) t)
    (λ m. sym (row_at-entries m rows) ∙ h m ∙ row_at-entries m more) in
    sym (rows_entries rows) ∙ ap (map row_of) same ∙ rows_entries more
