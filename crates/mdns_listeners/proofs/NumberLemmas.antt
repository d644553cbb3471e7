-- Counting the times of a listener tells whether it heard a message, and whether another did.
use Rattle.std.proofs.Common.{◌≡◌, ℕ, ◌+◌, Bool, not, ◌&&◌, cond, eqb, ltb, List, [], ◌∷◌}
use Rattle.std.proofs.Common.{length, arith, refl}
use Rattle.std.proofs.{lemmas.Bool.Decides.{nat_tests}}
use Rattle.std.proofs.lemmas.List.Sums.{sum_by-cons, count_by-le-length}
use Rattle.std.specs.{List.{count_by, list_any}}
use Rattle.mdns_survey.specs.{declared.reading.Span.{Span}}
use Rattle.mdns_listeners.specs.{HeardMessage.{HeardRow}, Numbers.{is_of, is_alone, is_missed, listened, times_heard}}

-- ---- counting the times of a listener

-- the count of a list with one more item
count-cons : {X : Type 0} (p : X → Bool) (x : X) (xs : List X) → count_by p (x ∷ xs) ≡ cond (p x) 1 0 + count_by p xs
count-cons p x xs = sum_by-cons (λ y. cond (p y) 1 0) x xs

pub any-count : {X : Type 0} (p : X → Bool) (xs : List X) → list_any p xs ≡ ltb 0 (count_by p xs)
any-count p [] = refl
any-count p (x ∷ xs) = grind (arith, nat_tests, count-cons, any-count p xs)

pub other-count : {X : Type 0} (p : X → Bool) (xs : List X) → list_any (λ x. not (p x)) xs ≡ ltb (count_by p xs) (length xs)
other-count p [] = refl
other-count p (x ∷ xs) = grind (arith, count_by-le-length, nat_tests, count-cons, other-count p xs)

pub alone_by_count : (listener : ℕ) (row : HeardRow)
    → is_alone listener row ≡ (ltb 0 (times_heard listener row) && eqb (times_heard listener row) (length row.times))
alone_by_count listener row =
    grind (arith, count_by-le-length, any-count (is_of listener) row.times, other-count (is_of listener) row.times, nat_tests)

pub missed_by_count : (listener : ℕ) (spans : List Span) (row : HeardRow)
    → is_missed listener spans row
    ≡ (eqb (times_heard listener row) 0 && list_any (λ at. listened spans at.moment) row.times)
missed_by_count listener spans row = grind (arith, any-count, nat_tests)
