-- Marks tell what the messages tell.
use Rattle.std.proofs.Common.{◌≡◌, ℕ, ◌+◌, Bool, true, ◌&&◌, cond, List, [], ◌∷◌, map, drop, get_or}
use Rattle.std.proofs.Common.{Option, Some, None, ℤ, arith, refl, ap, sym, ◌∙◌}
use Rattle.std.proofs.lemmas.{Bool.Decides.{nat_tests}, List.{get_or-drop, drop-drop}, List.Sums.{sum_by-cons}}
use Rattle.std.specs.List.{count_by, cons_option, enumerate_from, filter, filter_map, list_any}
use Rattle.mdns_capture.specs.declared.moment.Moment.{Moment}
use Rattle.mdns_listeners.specs.{HeardMessage.{HeardRow}, Marks.{is_seen, mark_at, marks_by, only_of, seen_by, seen_of}}
use Rattle.mdns_listeners.specs.{Numbers.{has, is_of}, Pairs.{common, differences, nanos_ahead, once, only_moment}}
use Rattle.mdns_listeners.specs.declared.{heard_message.HeardAt.{HeardAt}, marks.{Mark.{Mark}, Seen.{Seen}, Seen.TheVariants.{Never, Once, Often}}}

-- ---- how often a message was heard

some-seen : (at : HeardAt) (ats : List HeardAt) → true ≡ is_seen (seen_of (at ∷ ats))
some-seen at [] = refl
some-seen at (b ∷ ats) = refl

any-seen : (p : HeardAt → Bool) (ats : List HeardAt) → list_any p ats ≡ is_seen (seen_of (filter p ats))
any-seen p [] = refl
any-seen p (a ∷ ats) = grind (arith, some-seen, any-seen p ats)

pub has-seen : (listener : ℕ) (row : HeardRow) → has listener row ≡ is_seen (seen_by listener row)
has-seen listener row = any-seen (is_of listener) row.times

only-seen : (ats : List HeardAt) → only_moment ats ≡ only_of (seen_of ats)
only-seen [] = refl
only-seen (a ∷ []) = refl
only-seen (a ∷ b ∷ ats) = refl

pub once-seen : (listener : ℕ) (row : HeardRow) → once listener row ≡ only_of (seen_by listener row)
once-seen listener row = only-seen (filter (is_of listener) row.times)

-- ---- the marks of all messages

-- what is counted, and what is made, of a message's mark, if it has one, and of others
count-mark : (p : Mark → Bool) (n : ℕ) (s : Seen) (marks : List Mark)
    → count_by p (cons_option (mark_at n s) marks)
    ≡ cond (is_seen s && p (record { position = n; seen = s })) 1 0 + count_by p marks
count-mark p n Never marks = grind arith
count-mark p n (Once m) marks = sum_by-cons (λ (mark : Mark). cond (p mark) 1 0) (record { position = n; seen = Once m }) marks
count-mark p n Often marks = sum_by-cons (λ (mark : Mark). cond (p mark) 1 0) (record { position = n; seen = Often }) marks

ahead-never : (o : Option Moment) → nanos_ahead o None ≡ None
ahead-never None = refl
ahead-never (Some m) = refl

-- how much later the other heard a marked message than the one, if each heard it exactly once
abbrev ahead_at : List Seen → Mark → Option ℤ
ahead_at table mark = nanos_ahead (only_of (get_or table mark.position Never)) (only_of mark.seen)

differ-mark : (table : List Seen) (n : ℕ) (s : Seen) (marks : List Mark)
    → filter_map (ahead_at table) (cons_option (mark_at n s) marks)
    ≡ cons_option (nanos_ahead (only_of (get_or table n Never)) (only_of s)) (filter_map (ahead_at table) marks)
differ-mark table n Never marks = grind (arith, ahead-never)
differ-mark table n (Once m) marks = refl
differ-mark table n Often marks = refl

-- the first of what is left of a table, and the rest
here-is : (one : ℕ) (table : List Seen) (n : ℕ) (row : HeardRow) (rows : List HeardRow)
    → drop n table ≡ map (seen_by one) (row ∷ rows) → get_or table n Never ≡ seen_by one row
here-is one table n row rows e = grind (arith, get_or-drop n table 0 Never)

rest-is : (one : ℕ) (table : List Seen) (n : ℕ) (row : HeardRow) (rows : List HeardRow)
    → drop n table ≡ map (seen_by one) (row ∷ rows) → drop (n + 1) table ≡ map (seen_by one) rows
rest-is one table n row rows e = sym (drop-drop 1 n table) ∙ ap (λ (xs : List Seen). drop 1 xs) e

abbrev marks_from : ℕ → ℕ → List HeardRow → List Mark
marks_from listener n rows = filter_map (λ row. mark_at row.0 (seen_by listener row.1)) (enumerate_from n rows)

common-from : (one other : ℕ) (table : List Seen) (n : ℕ) (rows : List HeardRow) → drop n table ≡ map (seen_by one) rows
    → count_by (λ (mark : Mark). is_seen (get_or table mark.position Never)) (marks_from other n rows) ≡ common one other rows
common-from one other table n [] e = refl
common-from one other table n (row ∷ rows) e =
    let p : Mark → Bool = λ mark. is_seen (get_or table mark.position Never) in
    let joined : common one other (row ∷ rows) ≡ cond (has one row && has other row) 1 0 + common one other rows =
    sum_by-cons (λ (r : HeardRow). cond (has one r && has other r) 1 0) row rows in
    let first = count-mark p n (seen_by other row) (marks_from other (n + 1) rows) in
    let here : is_seen (get_or table n Never) ≡ has one row =
    ap is_seen (here-is one table n row rows e) ∙ sym (has-seen one row) in
    grind (arith, nat_tests, has-seen, common-from one other table (n + 1) rows (rest-is one table n row rows e))

differences-from : (one other : ℕ) (table : List Seen) (n : ℕ) (rows : List HeardRow) → drop n table ≡ map (seen_by one) rows
    → filter_map (ahead_at table) (marks_from other n rows) ≡ differences one other rows
differences-from one other table n [] e = refl
differences-from one other table n (row ∷ rows) e =
    let rest = differences-from one other table (n + 1) rows (rest-is one table n row rows e) in
    grind (arith, differ-mark, here-is one table n row rows e, once-seen)

pub common-marks : (one other : ℕ) (rows : List HeardRow) (table : List Seen) (marked : List Mark)
    → table ≡ map (seen_by one) rows → marked ≡ marks_by rows other
    → count_by (λ (mark : Mark). is_seen (get_or table mark.position Never)) marked ≡ common one other rows
common-marks one other rows table marked t m = grind (arith, common-from one other table 0 rows t)

pub differences-marks : (one other : ℕ) (rows : List HeardRow) (table : List Seen) (marked : List Mark)
    → table ≡ map (seen_by one) rows → marked ≡ marks_by rows other
    → filter_map (ahead_at table) marked ≡ differences one other rows
differences-marks one other rows table marked t m = grind (arith, differences-from)
