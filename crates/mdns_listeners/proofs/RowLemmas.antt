-- How sorted messages are made rows, and their times are added.
use Rattle.std.proofs.lemmas.{Bool.Decides.{nat_tests}, Bool.{cond_both}, List.{append-nil, get_or_append_left, get_or_at, length-map}}
use Rattle.std.proofs.lemmas.{List.{map_more}, List.Elements.{All-contains, All-head, All-map, All-tail}, List.Folds.{list_any_at}}
use Rattle.std.proofs.{lemmas.Map.Keys.{Less-from_sorted, sorted_head, sorted_tail}, Common.{◌≡◌, ℕ, zero, suc, ◌+◌, ◌<◌}}
use Rattle.std.proofs.Common.{Bool, true, false, cond, ◌||◌, List, [], ◌∷◌, ◌++◌, length, map, get_or, set, take, Option}
use Rattle.std.proofs.Common.{Some, refl, sym, ap, ◌∙◌, subst, arith, true≢false, length-append, Less, Equal}
use Rattle.std.specs.{Cmp.{tied_itself}, Cmp.Lexicographic.{slice_cmp, nat_list_cmp_total}, List.{All, AllByRecursion, filter, list_any}}
use Rattle.std.specs.{List.Sorted.{IsStrictlySortedBy}, Ordering.{nat_cmp}}
use Rattle.mdns_listeners.specs.declared.{heard_message.HeardAt.{HeardAt}, kept_message.MessageTime.{MessageTime}}
use Rattle.mdns_listeners.specs.HeardMessage.{AreHeardIn, HeardRow, Told, has_times, is_same, messages_of, row_at, some_times, times_of}
use Rattle.mdns_listeners.specs.KeptMessage.{ArePlaced, IsNumbered, KeptMessage, filled, told_by, told_of_rows}
use Rattle.mdns_listeners.proofs.HeardLemmas.{same-is, same-itself, times_of-append}

abbrev Ascend : List HeardRow → Type 0
Ascend rows = IsStrictlySortedBy (slice_cmp nat_cmp) (messages_of rows)

-- a message isn't one that is above it, nor one that is below it
pub not-same-below : (m n : List ℕ) → slice_cmp nat_cmp m n ≡ Less → is_same m n ≡ false
not-same-below m n h = by (is_same m n) refl
  where
    by : (b : Bool) → is_same m n ≡ b → is_same m n ≡ false
    by false e = e
    by true e = absurd (differ (sym (own n) ∙ subst (λ k. slice_cmp nat_cmp k n ≡ Less) (same-is m n e) h))
      where
        own : (k : List ℕ) → slice_cmp nat_cmp k k ≡ Equal
        own k = tied_itself nat_list_cmp_total k

        differ : Equal ≡ Less → ⊥
        differ e = cc

pub not-same-above : (m n : List ℕ) → slice_cmp nat_cmp n m ≡ Less → is_same m n ≡ false
not-same-above m n h = grind (arith, tied_itself, nat_list_cmp_total, same-is)

-- ---- lists

pub all-front : {X : Type 0} (P : X → Type 0) (xs ys : List X) → All P (xs ++ ys) → All P xs
all-front P xs ys h k d l = subst P (get_or_append_left xs ys d k l) (h k d (omega (arith, length-append xs ys)))

pub all-middle : {X : Type 0} (P : X → Type 0) (xs ys : List X) (x : X) → All P (xs ++ x ∷ ys) → P x
all-middle P xs ys x h = grind (arith, get_or_at xs x ys x (length xs) refl, length-append xs (x ∷ ys))

pub map-agree : {X Y : Type 0} (f g : X → Y) (xs : List X) → All (λ x. f x ≡ g x) xs → map f xs ≡ map g xs
map-agree f g [] h = refl
map-agree f g (x ∷ xs) h = λ i. All-head (λ y. f y ≡ g y) x xs h i ∷ map-agree f g xs (All-tail (λ y. f y ≡ g y) x xs h) i

-- ---- times added to rows

times-other : (m : List ℕ) (told : List Told) (t : Told) → is_same m t.message ≡ false → times_of m (told ++ t ∷ []) ≡ times_of m told
times-other m told t e = grind (arith, nat_tests, append-nil, times_of-append)

times-own : (m : List ℕ) (told : List Told) (t : Told) → is_same m t.message ≡ true
    → times_of m (told ++ t ∷ []) ≡ times_of m told ++ t.at ∷ []
times-own m told t e = grind (arith, times_of-append)

abbrev row_with : List ℕ → List HeardAt → HeardRow
row_with m times = record { message = m; times = times }

filled-other : (told : List Told) (t : Told) (row : HeardRow) → is_same row.message t.message ≡ false
    → filled (told ++ t ∷ []) row ≡ filled told row
filled-other told t row e = ap (row_with row.message) (times-other row.message told t e)

filled-others : (rows : List HeardRow) (told : List Told) (t : Told)
    → AllByRecursion (λ m. slice_cmp nat_cmp t.message m ≡ Less) (messages_of rows)
    → map (filled (told ++ t ∷ [])) rows ≡ map (filled told) rows
filled-others [] told t h = refl
filled-others (row ∷ rows) told t h = grind (arith, filled-other, not-same-above, filled-others rows told t h.1)

-- a time added to the row of its message
fill-step : (rows : List HeardRow) (told : List Told) (t : Told) (r : ℕ) (x : HeardRow) → r < length rows → Ascend rows
    → get_or (messages_of rows) r [] ≡ t.message → x ≡ get_or (map (filled told) rows) r x
    → set (map (filled told) rows) r (row_with x.message (x.times ++ t.at ∷ [])) ≡ map (filled (told ++ t ∷ [])) rows
fill-step [] told t r x l s own is = absurd (omega arith)
fill-step (row ∷ rows) told t zero x l s own is =
    let above = subst (λ k. AllByRecursion (λ m. slice_cmp nat_cmp k m ≡ Less) (messages_of rows)) own
    (sorted_head (slice_cmp nat_cmp) row.message (messages_of rows) s) in
    grind (arith, times-own, same-itself, filled-others rows told t above)
fill-step (row ∷ rows) told t (suc r) x l s own is =
    let below = Less-from_sorted (slice_cmp nat_cmp) (messages_of (row ∷ rows)) 0 (suc r) [] s (omega arith)
    (omega (arith, length-map rows (λ y. y.message))) in
    let rest = fill-step rows told t r x (omega arith) (sorted_tail (slice_cmp nat_cmp) row.message (messages_of rows) s) own is in
    grind (arith, filled-other, not-same-below)

pub fill_more : (first rows : List HeardRow) (numbers : List ℕ) (times : List MessageTime) (i : ℕ) (noted : MessageTime) (r : ℕ)
    (x y : HeardRow)
    → i < length times → noted ≡ get_or times i noted → r ≡ get_or numbers noted.place 0 → r < length first → Ascend first
    → rows ≡ map (filled (told_of_rows first numbers (take i times))) first → x ≡ get_or rows r x
    → y ≡ row_with x.message (x.times ++ noted.at ∷ [])
    → set rows r y ≡ map (filled (told_of_rows first numbers (take (i + 1) times))) first
fill_more first rows numbers times i noted r x y l is number within s so_far read added =
    let told = told_of_rows first numbers (take i times) in
    let teller : MessageTime → Told = λ n. record { message = get_or (messages_of first) (get_or numbers n.place 0) []; at = n.at } in
    let more : told_of_rows first numbers (take (i + 1) times) ≡ told ++ teller noted ∷ [] =
    map_more teller times i noted l ∙ ap (λ n. told ++ teller n ∷ []) (sym is) in
    let here : x ≡ get_or (map (filled told) first) r x = read ∙ ap (λ rs. get_or rs r x) so_far in
    grind (arith, fill-step first told (teller noted) r x within s (ap (λ n. get_or (messages_of first) n []) number) here)

-- ---- rows that have times

messages-filled : (told : List Told) (rows : List HeardRow) → messages_of (map (filled told) rows) ≡ messages_of rows
messages-filled told [] = refl
messages-filled told (row ∷ rows) = ap (λ ms. row.message ∷ ms) (messages-filled told rows)

above-heard : (m : List ℕ) (rows : List HeardRow) → AllByRecursion (λ n. slice_cmp nat_cmp m n ≡ Less) (messages_of rows)
    → AllByRecursion (λ n. slice_cmp nat_cmp m n ≡ Less) (messages_of (filter has_times rows))
above-heard m [] h = tt
above-heard m (row ∷ rows) h = grind (arith, cond_both, above-heard m rows h.1)

ascend-cons : (row : HeardRow) (rows : List HeardRow) → AllByRecursion (λ n. slice_cmp nat_cmp row.message n ≡ Less) (messages_of rows)
    → Ascend rows → Ascend (row ∷ rows)
unfolding IsStrictlySortedBy
ascend-cons row rows a s = (a, s)

ascend-heard : (rows : List HeardRow) → Ascend rows → Ascend (filter has_times rows)
ascend-heard [] s = s
ascend-heard (row ∷ rows) s =
    let rest = ascend-heard rows (sorted_tail (slice_cmp nat_cmp) row.message (messages_of rows) s) in
    cond_both (has_times row) _ _ Ascend
    (λ _. ascend-cons row (filter has_times rows)
    (above-heard row.message rows (sorted_head (slice_cmp nat_cmp) row.message (messages_of rows) s)) rest)
    (λ _. rest)

abbrev is_row : List ℕ → List HeardRow → Bool
is_row m rows = list_any (is_same m) (messages_of rows)

abbrev or_times : List HeardAt → Option (List HeardAt) → Option (List HeardAt)
or_times [] o = o
or_times (t ∷ ts) o = Some (t ∷ ts)

cond_same : {A : Type 0} (b : Bool) (x : A) → cond b x x ≡ x
cond_same true x = refl
cond_same false x = refl

heard-step : (m k : List ℕ) (times : List HeardAt) (rows : List HeardRow)
    → row_at m (cond (has_times (row_with k times)) (row_with k times ∷ rows) rows)
    ≡ cond (is_same m k) (or_times times (row_at m rows)) (row_at m rows)
heard-step m k [] rows = sym (cond_same (is_same m k) (row_at m rows))
heard-step m k (t ∷ ts) rows = refl

or_times-some : (times : List HeardAt) (b : Bool) → or_times times (some_times (cond b times [])) ≡ some_times times
or_times-some [] b = ap some_times (cond_same b [])
or_times-some (t ∷ ts) b = refl

row-step : (m : List ℕ) (told : List Told) (row : HeardRow) (rows : List HeardRow) (others : List HeardRow)
    → row_at m others ≡ some_times (cond (is_row m rows) (times_of m told) []) → (b : Bool) → is_same m row.message ≡ b
    → cond b (or_times (times_of row.message told) (row_at m others)) (row_at m others)
    ≡ some_times (cond (b || is_row m rows) (times_of m told) [])
row-step m told row rows others rest true e = grind (arith, same-is m row.message e, or_times-some (times_of m told) (is_row m rows))
row-step m told row rows others rest false e = rest

row_at-heard : (m : List ℕ) (told : List Told) (rows : List HeardRow)
    → row_at m (filter has_times (map (filled told) rows)) ≡ some_times (cond (is_row m rows) (times_of m told) [])
row_at-heard m told [] = refl
row_at-heard m told (row ∷ rows) = grind (arith, nat_tests, heard-step, row-step, row_at-heard m told rows)

told-step : (m : List ℕ) (t : Told) (told : List Told) (rows : List HeardRow) → is_row t.message rows ≡ true → is_row m rows ≡ false
    → times_of m told ≡ [] → (b : Bool) → is_same m t.message ≡ b → times_of m (t ∷ told) ≡ []
told-step m t told rows is not-row rest true e =
    absurd (true≢false (sym is ∙ ap (λ k. is_row k rows) (sym (same-is m t.message e)) ∙ not-row))
told-step m t told rows is not-row rest false e = grind arith

not-told : (m : List ℕ) (told : List Told) (rows : List HeardRow) → All (λ t. is_row t.message rows ≡ true) told
    → is_row m rows ≡ false → times_of m told ≡ []
not-told m [] rows h not-row = refl
not-told m (t ∷ told) rows h not-row =
    grind (arith, told-step, All-head, All-tail, not-told m told rows (All-tail (λ u. is_row u.message rows ≡ true) t told h) not-row)

heard-filled : (told : List Told) (rows : List HeardRow) → Ascend rows → All (λ t. is_row t.message rows ≡ true) told
    → AreHeardIn told (filter has_times (map (filled told) rows))
heard-filled told rows s all = grind (arith, ascend-heard, messages-filled, row_at-heard, not-told)

-- ---- rows by the places of messages

pub placed-row : (messages : List (List ℕ)) (kept : List KeptMessage) (rows : List HeardRow) (numbers : List ℕ) (place : ℕ)
    → ArePlaced messages kept → All (IsNumbered rows numbers) kept → place < length messages
    → (get_or numbers place 0 < length rows) × (get_or (messages_of rows) (get_or numbers place 0) [] ≡ get_or messages place [])
placed-row messages kept rows numbers place placed numbered l =
    grind (arith, All-contains (IsNumbered rows numbers) kept (placed.each place l).0 numbered (placed.each place l).1, All-contains)

pub numbered-times : (messages : List (List ℕ)) (kept : List KeptMessage) (rows : List HeardRow) (numbers : List ℕ)
    (times : List MessageTime)
    → ArePlaced messages kept → All (IsNumbered rows numbers) kept → All (λ noted. noted.place < length kept) times
    → All (λ noted. get_or numbers noted.place 0 < length rows) times
numbered-times messages kept rows numbers times placed numbered within k d l =
    let row = placed-row messages kept rows numbers (get_or times k d).place placed numbered
    (subst (λ n. (get_or times k d).place < n) placed.long (within k d l)) in
    row.0

pub rows-heard : (messages : List (List ℕ)) (kept : List KeptMessage) (rows : List HeardRow) (numbers : List ℕ) (times : List MessageTime)
    → Ascend rows → ArePlaced messages kept → All (IsNumbered rows numbers) kept → All (λ noted. noted.place < length kept) times
    → AreHeardIn (told_by messages times) (filter has_times (map (filled (told_of_rows rows numbers times)) rows))
rows-heard messages kept rows numbers times s placed numbered within =
    let row = λ (k : ℕ) (d : MessageTime) (l : k < length times).
    placed-row messages kept rows numbers (get_or times k d).place placed numbered
    (subst (λ n. (get_or times k d).place < n) placed.long (within k d l)) in
    let same : told_of_rows rows numbers times ≡ told_by messages times =
    map-agree _ _ times (λ k d l. λ i. record { message = (row k d l).1 i; at = (get_or times k d).at }) in
    let found : All (λ t. is_row t.message rows ≡ true) (told_by messages times) =
    All-map (λ t. is_row t.message rows ≡ true) _ times (λ k d l.
    list_any_at (is_same (get_or messages (get_or times k d).place [])) (messages_of rows) (get_or numbers (get_or times k d).place 0) []
    (omega (arith, (row k d l).0, length-map rows (λ y. y.message)))
    (ap (is_same (get_or messages (get_or times k d).place [])) (row k d l).1
    ∙ same-itself (get_or messages (get_or times k d).place []))) in
    grind (arith, heard-filled (told_by messages times) rows s found)
