-- Which record sets have changed, by each set alone.
use Rattle.std.proofs.Common.{◌≡◌, ◌≢◌, Bool, true, false, ◌&&◌, ◌||◌, ◌==◌, not, nat_le, nat_lt}
use Rattle.std.proofs.Common.{if◌then◌else◌, IsTrue, ◌↔◌, ℕ, ◌<◌, List, [], ◌∷◌, ◌++◌, map, slice_get}
use Rattle.std.proofs.Common.{Option, None, Some, unwrap_or, refl, sym, ap, ◌∙◌, true≢false, append_assoc, append-nil, arith}
use Rattle.std.proofs.lemmas.{Bool.{and_parts, or_right}, Bool.Decides.{nat_tests}, List.{map-append}, List.Elements.{filter-append}}
use Rattle.std.specs.{List.{AllByRecursion, filter, list_all, list_any}, List.Sorted.{IsStrictlySortedBy}, declared.cmp.Ordering.{Ordering}}
use Rattle.std.specs.{declared.cmp.Ordering.TheVariants.{Less, Equal, Greater}, Ordering.{is_eq}, Cmp.{tied_itself}}
use Rattle.mdns_message.specs.{RecordSet.{RecordSet}, Resource.{key_cmp, set_key_cmp, set_key_of}}
use Rattle.mdns_message.specs.laws.Resource.{set_key_cmp-exact, set_key_cmp-total}
use Rattle.join_map.specs.laws.Entries.{is_Equal}
use Rattle.mdns_join.specs.{declared.latest.Latest.{Latest}, Kept.{ascending, has, put}}
use Rattle.mdns_cache.specs.LentRecords.{last_lent}
use Rattle.mdns_lives.specs.declared.{life.Life.{Life}, life.Which.{Which}, life.Which.TheVariants.{All, Changes}}
use Rattle.mdns_lives.specs.declared.{lives.RecordLives.{RecordLives}, window.Window.{Window}}
use Rattle.mdns_lives.specs.Changes.{AreOf, AreOfOne, begins_in, begins_of, by_sets, changes_in, chosen, comes_back, goes_on}
use Rattle.mdns_lives.specs.Changes.{has_changed, is_between, is_of_set, is_pointer_record, kept_if, left_of}
use Rattle.mdns_lives.specs.{Changes.{maybe_next, maybe_row, met_in}, Lives.{AreApart}, LentLives.{row_lent}, Window.{in_window}}
use Rattle.mdns_lives.proofs.{LiveLifeLemmas.{Row, row_record}}
use Rattle.mdns_cache.proofs.LiveWalkLemmas.{key_after}

abbrev set_in : Row → RecordSet
set_in row = set_key_of row.0.resource

abbrev is_in : RecordSet → Row → Bool
is_in set row = is_of_set set row.0

same-set : (set key : RecordSet) → is_eq (set_key_cmp set key) ≡ true → set ≡ key
same-set set key e = set_key_cmp-exact set key (is_Equal (set_key_cmp set key) e)

of-itself : (set key : RecordSet) → set ≡ key → is_eq (set_key_cmp set key) ≡ true
of-itself set key same = grind (arith, tied_itself, set_key_cmp-total)

-- ---- lists of which only some elements count

any-alike : {X : Type 0} (p q : X → Bool) (xs : List X) → ((x : X) → p x ≡ q x) → list_any p xs ≡ list_any q xs
any-alike p q [] same = refl
any-alike p q (x ∷ xs) same = λ i. same x i || any-alike p q xs same i

-- neither the order of moments counts, nor repeats
any-put : (p : ℕ → Bool) (m : ℕ) (xs : List ℕ) → list_any p (put m xs) ≡ (p m || list_any p xs)
any-put p m [] = refl
any-put p m (x ∷ xs) = grind (arith, nat_tests, any-put p m xs)

any-sorted : (p : ℕ → Bool) (xs : List ℕ) → list_any p (ascending xs) ≡ list_any p xs
any-sorted p [] = refl
any-sorted p (x ∷ xs) = any-put p x (ascending xs) ∙ ap (λ b. p x || b) (any-sorted p xs)

-- ---- the rows of a set among others

-- none of the rows is of the set
abbrev NoneOf : RecordSet → List Row → Type 0
NoneOf set rows = AllByRecursion (λ (row : Row). set ≢ set_in row) rows

none-of : (set : RecordSet) (rows : List Row) → NoneOf set rows → filter (is_in set) rows ≡ []
none-of set [] none = refl
none-of set (row ∷ rows) none = grind (arith, same-set, none-of set rows none.1)

-- ---- a set, and rows of others

abbrev AllOf : RecordSet → List Row → Type 0
AllOf set rows = AllByRecursion (λ (row : Row). set_in row ≡ set) rows

none-other : (set key : RecordSet) (rows : List Row) → set ≢ key → AllOf set rows → NoneOf key rows
none-other set key [] other own = tt
none-other set key (row ∷ rows) other own = (λ same. other (sym (same ∙ own.0)), none-other set key rows other own.1)

-- the records of the set are PTR records
abbrev is_shared_set : RecordSet → Bool
is_shared_set set = set.number == 12

-- ---- one set after another

less-on : (a b c : RecordSet) → set_key_cmp a b ≡ Less → set_key_cmp b c ≢ Greater → set_key_cmp a c ≡ Less
less-on a b c less more = grind (arith, set_key_cmp-total, set_key_cmp-exact)

less-other : (a b : RecordSet) → set_key_cmp a b ≡ Less → a ≢ b
less-other a b less same = true≢false (sym (of-itself a b same) ∙ ap is_eq less)

-- the rows after these are in key order
abbrev Follow : Row → List Row → Type 0
Follow row rows = AllByRecursion (λ key. key_cmp (row_record row) key ≡ Less) (map row_record rows)

later-none : (set : RecordSet) (row : Row) (rows : List Row) → set_key_cmp set (set_in row) ≡ Less → Follow row rows → NoneOf set rows
later-none set row [] less follow = tt
later-none set row (next ∷ rows) less follow = search (arith, less-other, less-on, key_after, later-none set row rows less follow.1)

others-left : (x row : Row) (rows : List Row) → Follow x (row ∷ rows) → Follow row rows → is_in (set_in x) row ≡ false
    → NoneOf (set_in x) (row ∷ rows)
others-left x row rows follow next ends = by (set_key_cmp (set_in x) (set_in row)) refl
  where
    by : (o : Ordering) → set_key_cmp (set_in x) (set_in row) ≡ o → NoneOf (set_in x) (row ∷ rows)
    by Less e = (less-other (set_in x) (set_in row) e, later-none (set_in x) row rows e next)
    by Equal e = absurd (true≢false (sym (ap is_eq e) ∙ ends))
    by Greater e = absurd (key_after (row_record x) (row_record row) follow.0 e)

all-more : (set : RecordSet) (rows : List Row) (row : Row) → AllOf set rows → set_in row ≡ set → AllOf set (rows ++ row ∷ [])
all-more set [] row own same = (same, tt)
all-more set (x ∷ rows) row own same = (own.0, all-more set rows row own.1 same)

on-same : (x row : Row) → goes_on (x ∷ []) row.0 ≡ true → set_in row ≡ set_in x
on-same x row on = sym (same-set (set_in x) (set_in row) (and_parts (not (is_pointer_record x.0)) (is_in (set_in x) row) on).1)

-- ---- reading a set

some-first : (row : Row) (rows : List Row) → row ∷ rows ≢ []
some-first row rows none = cc

is-set : (set key : RecordSet) (is : Bool) → (IsTrue is ↔ (set ≡ key)) → is ≡ is_eq (set_key_cmp set key)
is-set set key true test = sym (of-itself set key (test.0 refl))
is-set set key false test = grind (arith, same-set)

is-held : (shared : Bool) (set key : RecordSet) (is : Bool) → (IsTrue is ↔ ((shared ≡ false) × (set ≡ key)))
    → is ≡ (not shared && is_eq (set_key_cmp set key))
is-held false set key is test = is-set set key is (λ yes. (test.0 yes).1, λ same. test.1 (refl, same))
is-held true set key false test = refl
is-held true set key true test = absurd (true≢false (test.0 refl).0)

pub set-goes-on : (set : List RecordLives) (first : RecordLives) (last : Latest) (is : Bool) → Some first ≡ slice_get set 0
    → (IsTrue is ↔ ((is_pointer_record (last_lent first.last) ≡ false) × (set_key_of (last_lent first.last).resource ≡ set_key_of last.resource)))
    → is ≡ goes_on (map row_lent set) last
set-goes-on [] first last is at test = absurd (cc)
set-goes-on (x ∷ set) first last is at test =
    is-held (is_pointer_record (last_lent first.last)) (set_key_of (last_lent first.last).resource) (set_key_of last.resource) is test
    ∙ ap (λ (o : Option RecordLives). goes_on (row_lent (unwrap_or o first) ∷ []) last) at

of-more : (set : RecordSet) (rows : List Row) (row : Row) → AreOf set rows → set_in row ≡ set → AreApart row.1
    → AreOf set (rows ++ row ∷ [])
of-more set [] row own same apart = (same, apart, tt)
of-more set (x ∷ rows) row own same apart = (own.0, own.1, of-more set rows row own.2 same apart)

one-more : (set : List Row) (row : Row) → AreOfOne set → goes_on set row.0 ≡ true → AreApart row.1 → AreOfOne (set ++ row ∷ [])
one-more [] row one on apart = absurd one
one-more (x ∷ set) row one on apart = (one.0, of-more (set_in x) (x ∷ set) row one.1 (on-same x row on) apart)

-- the rows of a set that were read, the first of which was before the others, and what is left of those
pub record ReadSo (window : Window) (first rows set rest : List Row) : Type 0 where
  pub left : by_sets window first rows ≡ by_sets window set rest
  pub one : AreOfOne set

-- ---- whether a set has changed

own-rows : (set : RecordSet) (rows : List Row) → AreOf set rows → filter (is_in set) rows ≡ rows
own-rows set [] own = refl
own-rows set (row ∷ rows) own = grind (arith, of-itself, own-rows set rows own.2)

-- ---- a record that is alone in its set

and-false : (b : Bool) → (b && false) ≡ false
and-false true = refl
and-false false = refl

-- the moment is that at which one of its lives began
own-between : (from m : ℕ) (lives : List Life) → m < from → has (begins_of lives) m ≡ true
    → list_all (λ (own : Life). nat_le from own.from.nanos || nat_lt own.from.nanos m) lives ≡ false
own-between from m [] less held = absurd (true≢false (sym held))
own-between from m (life ∷ lives) less held = grind (arith, nat_tests, own-between from m lives less)

none-own : (lives : List Life) (life : Life) (m : ℕ) → has (begins_of lives) m ≡ true → is_between lives life m ≡ false
none-own lives life m held = by (nat_lt m life.from.nanos) refl
  where
    by : (b : Bool) → nat_lt m life.from.nanos ≡ b → is_between lives life m ≡ false
    by false e = ap (λ b. b && list_all (λ (own : Life). nat_le life.from.nanos own.from.nanos || nat_lt own.from.nanos m) lives) e
    by true e =
        ap (λ b. nat_lt m life.from.nanos && b) (own-between life.from.nanos m lives (grind (arith, nat_tests, e)) held)
        ∙ ap (λ b. b && false) e

any-own : (lives : List Life) (life : Life) (begun : List ℕ) → ((m : ℕ) → has begun m ≡ true → has (begins_of lives) m ≡ true)
    → list_any (is_between lives life) begun ≡ false
any-own lives life [] into = refl
any-own lives life (m ∷ begun) into =
    grind (arith, none-own, nat_tests, or_right, any-own lives life begun (λ q held. into q (or_right (m == q) _ held)))

pub goes-on-first : (first second : Row) (l m : Latest) (is : Bool) → l ≡ first.0 → m ≡ second.0
    → (IsTrue is ↔ ((is_pointer_record l ≡ false) × (set_key_of l.resource ≡ set_key_of m.resource))) → goes_on (first ∷ []) second.0 ≡ is
goes-on-first first second l m is e f test =
    grind (arith, is-held (is_pointer_record l) (set_key_of l.resource) (set_key_of m.resource) is test)

-- ---- the lives that are chosen

module _ (window : Window) where
  changed-right : (set : RecordSet) (xs ys : List Row) → NoneOf set xs → has_changed window (xs ++ ys) set ≡ has_changed window ys set
  changed-right set xs ys none = grind (arith, filter-append, none-of)

  changed-left : (set : RecordSet) (xs ys : List Row) → NoneOf set ys → has_changed window (xs ++ ys) set ≡ has_changed window xs set
  changed-left set xs ys none = grind (arith, filter-append, none-of, append-nil)

  -- a row with its lives if its set has changed
  abbrev changed_in : List Row → Row → Row
  changed_in all row = kept_if window (has_changed window all (set_in row)) row

  changed-alike : (all some : List Row) (row : Row) → has_changed window all (set_in row) ≡ has_changed window some (set_in row)
      → changed_in all row ≡ changed_in some row
  changed-alike all some row same = ap (λ b. kept_if window b row) same

  -- of a set of PTR records no rows have a change
  as-changed : (all some : List Row) (set : RecordSet)
      → (is_shared_set set ≡ false → has_changed window all set ≡ has_changed window some set)
      → has_changed window all set ≡ has_changed window some set
  as-changed all some set same = grind arith

  module _ (set : RecordSet) (xs more : List Row) (own : AllOf set xs) (none : is_shared_set set ≡ false → NoneOf set more) where
    first-rows : (rows : List Row) → AllOf set rows → map (changed_in (xs ++ more)) rows ≡ map (changed_in xs) rows
    first-rows [] all = refl
    first-rows (row ∷ rows) all = grind (arith, as-changed, changed-left, changed-alike, first-rows rows all.1)

    other-rows : (rows : List Row) → (is_shared_set set ≡ false → NoneOf set rows)
        → map (changed_in (xs ++ more)) rows ≡ map (changed_in more) rows
    other-rows [] others = refl
    other-rows (row ∷ rows) others =
        grind (arith, as-changed, changed-right, none-other, changed-alike, other-rows rows (λ unshared. (others unshared).1))

    changes-both : changes_in window (xs ++ more) ≡ changes_in window xs ++ changes_in window more
    changes-both = map-append (changed_in (xs ++ more)) xs more ∙ (λ i. first-rows xs own i ++ other-rows more none i)

  one-step : (x row : Row) (xs rows : List Row) (b : Bool) → goes_on (x ∷ xs) row.0 ≡ b → AllOf (set_in x) (x ∷ xs)
      → (goes_on (x ∷ xs) row.0 ≡ true → by_sets window (x ∷ xs ++ row ∷ []) rows ≡ changes_in window ((x ∷ xs ++ row ∷ []) ++ rows))
      → (goes_on (x ∷ xs) row.0 ≡ false → is_pointer_record x.0 ≡ false → NoneOf (set_in x) (row ∷ rows))
      → by_sets window (row ∷ []) rows ≡ changes_in window (row ∷ rows)
      → (if b then by_sets window (x ∷ xs ++ row ∷ []) rows else changes_in window (x ∷ xs) ++ by_sets window (row ∷ []) rows)
      ≡ changes_in window (x ∷ xs ++ row ∷ rows)
  one-step x row xs rows true e own on others next = on e ∙ ap (changes_in window) (append_assoc (x ∷ xs) (row ∷ []) rows)
  one-step x row xs rows false e own on others next = grind (arith, changes-both (set_in x) (x ∷ xs) (row ∷ rows) own (others e))

  sets-from : (x : Row) (xs rows : List Row) → AllOf (set_in x) (x ∷ xs) → IsStrictlySortedBy key_cmp (map row_record (x ∷ rows))
      → by_sets window (x ∷ xs) rows ≡ changes_in window (x ∷ xs ++ rows)
  unfolding IsStrictlySortedBy
  sets-from x xs [] own sorted = sym (ap (changes_in window) (append-nil (x ∷ xs)))
  sets-from x xs (row ∷ rows) own sorted =
      one-step x row xs rows (goes_on (x ∷ xs) row.0) refl own
      (λ on. sets-from x (xs ++ row ∷ []) rows
      (all-more (set_in x) (x ∷ xs) row own (on-same x row on)) (sorted.0.1, sorted.1.1))
      (λ ends unshared. others-left x row rows sorted.0 sorted.1.0
      (sym (ap (λ b. not b && is_in (set_in x) row) unshared) ∙ ends)) (sets-from row [] rows (refl, tt) sorted.1)

  sets-all : (rows : List Row) → IsStrictlySortedBy key_cmp (map row_record rows) → by_sets window [] rows ≡ changes_in window rows
  sets-all [] sorted = refl
  sets-all (row ∷ rows) sorted = sets-from row [] rows (refl, tt) sorted

  -- a walk over all rows, of which none were taken
  pub left_whole : (which : Which) (changed : Bool) (set : List RecordLives) (walk rows : List Row) → set ≡ [] → walk ≡ rows
      → IsStrictlySortedBy key_cmp (map row_record walk)
      → left_of which window changed (map row_lent set) [] (Some walk) ≡ chosen which window rows
  left_whole All changed set walk rows none same sorted = ap (met_in window) same
  left_whole Changes changed set walk rows none same sorted = grind (arith, sets-all)

  pub sets-some : (x : Row) (xs rows : List Row) → by_sets window (x ∷ xs) rows ≢ []
  sets-some x xs [] = some-first _ _
  sets-some x xs (row ∷ rows) = grind (arith, some-first, sets-some x (xs ++ row ∷ []) rows)

  pub read-more : (first rows set old : List Row) (row : Row) (rest more : List Row) → ReadSo window first rows set old → old ≡ row ∷ rest
      → goes_on set row.0 ≡ true → AreApart row.1 → more ≡ set ++ row ∷ [] → ReadSo window first rows more rest
  read-more first rows set old row rest more read next on apart pushed = grind (arith, one-more)

  kept-of : (all : List Row) (set : RecordSet) (rows : List Row) (changed : Bool) → AreOf set rows → has_changed window all set ≡ changed
      → map (changed_in all) rows ≡ map (kept_if window changed) rows
  kept-of all set [] changed own is = refl
  kept-of all set (row ∷ rows) changed own is = grind (arith, kept-of all set rows changed own.2 is)

  -- the moments may be sorted
  changed-sorted : (set : RecordSet) (rows : List Row) → AreOf set rows
      → has_changed window rows set ≡ (not (set.number == 12) && list_any (comes_back window (ascending (begins_in rows))) rows)
  changed-sorted set rows own = grind (arith, own-rows, any-alike, any-sorted)

  pub kept-set : (set : List RecordLives) (begun : List ℕ) (changed : Bool) → AreOfOne (map row_lent set)
      → begun ≡ ascending (begins_in (map row_lent set)) → changed ≡ list_any (comes_back window begun) (map row_lent set)
      → changes_in window (map row_lent set) ≡ map (kept_if window changed) (map row_lent set)
  kept-set [] begun changed one sorted is = absurd one
  kept-set (x ∷ set) begun changed one sorted is =
      let rows = map row_lent (x ∷ set) in
      kept-of rows (set_in (row_lent x)) rows changed one.1 (changed-sorted (set_in (row_lent x)) rows one.1
      ∙ (λ i. not (one.0 i) && list_any (comes_back window (sym sorted i)) rows) ∙ sym is)

  none-back : (lives some : List Life)
      → list_any (λ (life : Life). in_window window life.from && list_any (is_between lives life) (begins_of lives)) some ≡ false
  none-back lives [] = refl
  none-back lives (life ∷ some) = grind (arith, any-own, and-false, none-back lives some)

  -- the lives of a record that is alone in its set are no changes
  pub changes_alone : (row : Row) → changes_in window (row ∷ []) ≡ (row.0, []) ∷ []
  changes_alone row =
      grind (arith, of-itself, append-nil (begins_of row.1), none-back row.1 row.1, and-false (not ((set_in row).number == 12)))

  -- nothing is left of a set that was read
  pub left-from : (which : Which) (changed : Bool) (old new : List Row) (took : Option RecordLives) (next : Option Row)
      (walk : Option (List Row)) (rows : List Row) (first : Row) (rest : List Row) → which ≡ Changes
      → map (kept_if window changed) old ≡ maybe_row took ++ map (kept_if window changed) new → took ≡ None → new ≡ [] → walk ≡ Some rows
      → by_sets window (maybe_next next) rows ≡ by_sets window (first ∷ []) rest
      → left_of which window changed old (maybe_next next) walk ≡ by_sets window (first ∷ []) rest
  left-from All changed old new took next walk rows first rest is split none empty walks begun = absurd (cc)
  left-from Changes changed old new took next walk rows first rest is split none empty walks begun = grind arith

  -- the second record doesn't go on with the set of the first
  pub left-apart : (which : Which) (changed : Bool) (new : List Row) (first second taken : Row) (rest after : List Row) → which ≡ Changes
      → new ≡ [] → rest ≡ second ∷ after → goes_on (first ∷ []) second.0 ≡ false → changes_in window (first ∷ []) ≡ taken ∷ []
      → by_sets window (first ∷ []) rest ≡ taken ∷ left_of which window changed new (second ∷ []) (Some after)
  left-apart All changed new first second taken rest after is empty more ends alone = absurd (cc)
  left-apart Changes changed new first second taken rest after is empty more ends alone = grind arith

  pub read-two : (first second : Row) (rows set : List Row) → goes_on (first ∷ []) second.0 ≡ true → AreApart first.1 → AreApart second.1
      → set ≡ first ∷ second ∷ [] → ReadSo window (first ∷ []) (second ∷ rows) set rows
  read-two first second rows set on one two is =
      read-more (first ∷ []) (second ∷ rows) (first ∷ []) (second ∷ rows) second rows set record {
        left = refl;
        one = (unshared (is_pointer_record first.0) (and_parts (not (is_pointer_record first.0)) _ on).0, (refl, one, tt));
      } refl on two is
    where
      unshared : (b : Bool) → not b ≡ true → b ≡ false
      unshared false e = refl
      unshared true e = sym e

-- WHAT FUNCTIONS ARE PROVED BY

pub ruleset for_read_set = (read-more, read-two, map-append)
