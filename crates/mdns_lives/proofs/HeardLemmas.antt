-- The seconds that a walk over hearings in order gives, and those that are held.
use Rattle.std.proofs.Common.{rules, ◌≡◌, ℕ, ◌<◌, ◌≤◌, true, false, Bool, ◌==◌, List, [], ◌∷◌, map, Option, None, Some, Contains, unwrap_or}
use Rattle.std.proofs.{Common.{◌⊎◌, ap, refl, sym, ◌∙◌, subst, inl, inr, arith, eqb-true, eq-eqb}, lemmas.{Bool.Decides.{nat_tests}, Cmp.{ranked}}}
use Rattle.std.proofs.lemmas.Option.{same_Some}
use Rattle.std.specs.{declared.cmp.Ordering.TheVariants.{Less}, Ordering.{nat_cmp}, Cmp.{nat_cmp_is}, List.{AllByRecursion}}
use Rattle.std.specs.List.Sorted.{IsStrictlySortedBy}
use Rattle.join_map.specs.{Entries.{value_at}, laws.Entries.{ValidAt, valid_at}}
use Rattle.mdns_message.specs.{declared.hearing.Hearing.{Hearing}, declared.key.Key.{Key}, Resource.{key_cmp}}
use Rattle.mdns_message.specs.laws.Resource.{key_cmp-exact, key_cmp-total}
use Rattle.mdns_cache.proofs.StandsPartLemmas.{Contains-nil, Contains-head, Contains-later, Contains-cases}
use Rattle.mdns_lives.specs.declared.{account.Account.{Account}, life.RecordHearing.{RecordHearing}}
use Rattle.mdns_lives.specs.{declared.seconds_heard.SecondHeard.{SecondHeard}, Chronicle.{Accounts, Chronicles, history_in}}
use Rattle.mdns_lives.specs.Heard.{number_of, AreSecondsOf, AreSecondsHeard, heard_once, heard_again, seconds_from, seconds_held}
use Rattle.mdns_lives.specs.{Heard.{seconds_walked}, History.{IsUpTo, AreInOrder, IsHeardAs}}
use Rattle.mdns_lives.specs.Seconds.{second_of, IsBetween, Ends, ends, ends_at, AreEnds, AreEndsIn, IsSeconds, Seconds, listed_ends, seconds_of}
use Rattle.mdns_lives.proofs.OrderLemmas.{IsUpTo-itself, IsUpTo-onward, no_later, first_least}
use Rattle.mdns_lives.specs.{Account.{IsAccount}, laws.Account.{account-laws}}
use Rattle.mdns_lives.proofs.{ListedLemmas.{listed-among, listed-between, listed-in_order}, SecondsLemmas.{IsSeconds-of, between-itself, same_ends_in, at-seconds_of}}

-- ---- seconds of hearings between others

module _ {P Q : RecordHearing → Type 0} (among : (h : RecordHearing) → P h → Q h) (between : (h : RecordHearing) → Q h → IsBetween P h) where
  ends-between : (n : ℕ) (e : Ends) → AreEnds P n e → AreEnds Q n e
  ends-between n e a = record {
    least_there = among e.least a.least_there;
    greatest_there = among e.greatest a.greatest_there;
    least_in = a.least_in;
    greatest_in = a.greatest_in;
    between = λ h q same.
        let w = between h q in (
          IsUpTo-onward e.least w.least h (a.between w.least w.least_there (w.least_in ∙ same)).0 w.from_least,
          IsUpTo-onward h w.greatest e.greatest w.to_greatest (a.between w.greatest w.greatest_there (w.greatest_in ∙ same)).1,
        );
  }

  seconds-between : (seconds : List SecondHeard) → AreSecondsOf P seconds → AreSecondsOf Q seconds
  seconds-between seconds a = record {
    ascending = a.ascending;
    each = λ s m. ends-between (number_of s) (ends s.first s.last) (a.each s m);
    all = λ x q.
        let w = between x q in
        let found = a.all w.least w.least_there in
        (found.0, found.1, found.2 ∙ w.least_in);
  }

-- ---- one second before others

second-up_to : (g h : RecordHearing) → IsUpTo g h → second_of g ≤ second_of h
second-up_to g h u = let l = no_later g h u in omega (arith, l)

-- the hearings of a second that has begun, and those left
abbrev all_from : SecondHeard → List RecordHearing → List RecordHearing
all_from current hs = current.first ∷ current.last ∷ hs

-- it is of hearings in order, both in one second
record IsBegun (current : SecondHeard) (hs : List RecordHearing) : Type 0 where
  pub in_order : AreInOrder (all_from current hs)
  pub same : second_of current.last ≡ number_of current

numbers-after : (n : ℕ) (seconds : List SecondHeard) → ((s : SecondHeard) → Contains seconds s → n < number_of s)
    → AllByRecursion (λ m. nat_cmp n m ≡ Less) (map number_of seconds)
numbers-after n [] after = tt
numbers-after n (s ∷ seconds) after =
    grind (arith, nat_cmp_is, Contains-head, Contains-later, numbers-after n seconds (λ t m. after t (Contains-later s seconds t m)))

-- the hearing is the first or the last one of the second that has begun, or among those left
from-cases : (P : RecordHearing → Type 0) (current : SecondHeard) (hs : List RecordHearing) → P current.first → P current.last
    → ((x : RecordHearing) → Contains hs x → P x) → (x : RecordHearing) → Contains (all_from current hs) x → P x
from-cases P current hs first last rest x m = grind (arith, Contains-cases)

last-among : (current : SecondHeard) (hs : List RecordHearing) → Contains (all_from current hs) current.last
last-among current hs = grind (arith, Contains-later, Contains-head)

left-among : (current : SecondHeard) (hs : List RecordHearing) (x : RecordHearing) → Contains hs x → Contains (all_from current hs) x
left-among current hs x m = grind (arith, Contains-later current.first (current.last ∷ hs) x (Contains-later current.last hs x m))

-- the second that has begun is the only one of its hearings
begun-alone : (current : SecondHeard) → IsBegun current [] → AreSecondsOf (Contains (all_from current [])) (current ∷ [])
unfolding IsStrictlySortedBy
begun-alone current b =
    let up = b.in_order.0 in
    let whole : (x : RecordHearing) → Contains (all_from current []) x → IsUpTo current.first x × IsUpTo x current.last =
    grind (arith, from-cases) in
    let here : AreEnds (Contains (all_from current [])) (number_of current) (ends current.first current.last) =
    grind (arith, Contains-head current.first (current.last ∷ []), last-among current []) in
    let named : (x : RecordHearing) → Contains (all_from current []) x → number_of current ≡ second_of x =
    from-cases (λ x. number_of current ≡ second_of x) current [] refl (sym b.same) (λ x m. absurd (Contains-nil x m)) in
    record {
      ascending = (tt, tt);
      each = grind (arith, Contains-cases, Contains-nil);
      all = λ x m. (current, Contains-head current [], named x m);
    }

-- the second that has begun is over, and these are the seconds of the later hearings
module _ (current : SecondHeard) (h : RecordHearing) (hs : List RecordHearing) (b : IsBegun current (h ∷ hs)) (past : number_of current < second_of h)
    (seconds : List SecondHeard) (rest : AreSecondsOf (Contains (all_from (heard_once h) hs)) seconds) where
  abbrev There : RecordHearing → Type 0
  There = Contains (all_from current (h ∷ hs))

  after : (x : RecordHearing) → Contains (h ∷ hs) x → number_of current < second_of x
  after x m = let l = second-up_to h x (first_least h hs b.in_order.1.1 x m) in omega (arith, past, l)

  once-left : (x : RecordHearing) → Contains (all_from (heard_once h) hs) x → Contains (h ∷ hs) x
  once-left = grind (arith, from-cases)

  -- a hearing of this second is between its ends
  abbrev IsHere : RecordHearing → Type 0
  IsHere x = (number_of current ≡ second_of x) × IsUpTo current.first x × IsUpTo x current.last

  -- a hearing that is there is of this second, or it is left
  where_is : (x : RecordHearing) → There x → IsHere x ⊎ Contains (h ∷ hs) x
  where_is = grind (arith, from-cases, IsUpTo-itself)

  number-after : (s : SecondHeard) → Contains seconds s → number_of current < number_of s
  number-after s m = after s.first (once-left s.first (rest.each s m).least_there)

  this_ends : AreEnds There (number_of current) (ends current.first current.last)
  this_ends = record {
    least_there = Contains-head current.first (current.last ∷ h ∷ hs);
    greatest_there = last-among current (h ∷ hs);
    least_in = refl;
    greatest_in = b.same;
    between = λ x m same. elim (where_is x m) [
      | inl here ↦ (here.1, here.2)
      | inr left ↦ (let l = after x left in absurd (omega (arith, l, same)))
    ];
  }

  later_ends : (s : SecondHeard) → Contains seconds s → AreEnds There (number_of s) (ends s.first s.last)
  later_ends s m =
      let e = rest.each s m in record {
        least_there = left-among current (h ∷ hs) s.first (once-left s.first e.least_there);
        greatest_there = left-among current (h ∷ hs) s.last (once-left s.last e.greatest_there);
        least_in = e.least_in;
        greatest_in = e.greatest_in;
        between = λ x w same. elim (where_is x w) [
          | inl here ↦ (let l = number-after s m in let is = here.0 in absurd (omega (arith, l, is, same)))
          | inr left ↦ e.between x (Contains-later h (h ∷ hs) x left) same
        ];
      }

  begun-over : AreSecondsOf There (current ∷ seconds)
  unfolding IsStrictlySortedBy
  begun-over = record {
    ascending = (numbers-after (number_of current) seconds number-after, rest.ascending);
    each = grind (arith, Contains-cases, this_ends, later_ends);
    all = λ x m. elim (where_is x m) [
      | inl here ↦ (current, Contains-head current seconds, here.0)
      | inr left ↦ (let found = rest.all x (Contains-later h (h ∷ hs) x left) in
          (found.0, Contains-later current seconds found.0 found.1, found.2))
    ];
  }

-- ---- the walk

pub seconds_from-over : (current : SecondHeard) → seconds_from current [] ≡ current ∷ []
unfolding seconds_from
seconds_from-over current = refl

pub seconds_from-on : (current : SecondHeard) (h : RecordHearing) (hs : List RecordHearing) → second_of h ≡ number_of current
    → seconds_from current (h ∷ hs) ≡ seconds_from (heard_again current h) hs
unfolding seconds_from
seconds_from-on current h hs same = grind (arith, eq-eqb, same)

pub seconds_from-anew : (current : SecondHeard) (h : RecordHearing) (hs : List RecordHearing) → (second_of h == number_of current) ≡ false
    → seconds_from current (h ∷ hs) ≡ current ∷ seconds_from (heard_once h) hs
unfolding seconds_from
seconds_from-anew current h hs other = grind arith

-- the last hearing so far is between the first one and the next
again-between : (current : SecondHeard) (h : RecordHearing) (hs : List RecordHearing) → IsBegun current (h ∷ hs) → second_of h ≡ number_of current
    → (x : RecordHearing) → Contains (all_from current (h ∷ hs)) x → IsBetween (Contains (all_from (heard_again current h) hs)) x
again-between current h hs b same =
    let There = Contains (all_from (heard_again current h) hs) in
    let first : There current.first = Contains-head current.first (h ∷ hs) in
    let next : There h = last-among (heard_again current h) hs in
    from-cases (IsBetween There) current (h ∷ hs) (between-itself {P = There} current.first first) (record {
      least = current.first;
      greatest = h;
      least_there = first;
      greatest_there = next;
      least_in = sym b.same;
      greatest_in = same ∙ sym b.same;
      from_least = b.in_order.0;
      to_greatest = b.in_order.1.0;
    }) (λ x m. between-itself {P = There} x (Contains-later current.first (h ∷ hs) x m))

again-among : (current : SecondHeard) (h : RecordHearing) (hs : List RecordHearing) (x : RecordHearing)
    → Contains (all_from (heard_again current h) hs) x → Contains (all_from current (h ∷ hs)) x
again-among current h hs = search (rules, from-cases, Contains-head, left-among, Contains-later)

AreSecondsOf-from : (hs : List RecordHearing) (current : SecondHeard) → IsBegun current hs
    → AreSecondsOf (Contains (all_from current hs)) (seconds_from current hs)
AreSecondsOf-from [] current b = grind (arith, seconds_from-over current, begun-alone current b)
AreSecondsOf-from (h ∷ hs) current b = by (second_of h == number_of current) refl (AreSecondsOf-from hs)
  where
    by : (t : Bool) → (second_of h == number_of current) ≡ t
        → ((next : SecondHeard) → IsBegun next hs → AreSecondsOf (Contains (all_from next hs)) (seconds_from next hs))
        → AreSecondsOf (Contains (all_from current (h ∷ hs))) (seconds_from current (h ∷ hs))
    by true e rest =
        let same = eqb-true (second_of h) (number_of current) e in
        let next : IsBegun (heard_again current h) hs = record {
          in_order = (IsUpTo-onward current.first current.last h b.in_order.0 b.in_order.1.0, b.in_order.1.1);
          same = same;
        } in
        subst (AreSecondsOf (Contains (all_from current (h ∷ hs)))) (sym (seconds_from-on current h hs same))
        (seconds-between {P = Contains (all_from (heard_again current h) hs)} {Q = Contains (all_from current (h ∷ hs))}
        (again-among current h hs) (again-between current h hs b same) (seconds_from (heard_again current h) hs)
        (rest (heard_again current h) next))
    by false e rest =
        let next : IsBegun (heard_once h) hs = record { in_order = (IsUpTo-itself h, b.in_order.1.1); same = refl } in
        let up = second-up_to current.last h b.in_order.1.0 in
        let was = b.same in
        let past : number_of current < second_of h = grind (arith, nat_tests, e, up, was) in
        subst (AreSecondsOf (Contains (all_from current (h ∷ hs)))) (sym (seconds_from-anew current h hs e))
        (begun-over current h hs b past (seconds_from (heard_once h) hs) (rest (heard_once h) next))

pub AreSecondsOf-walked : (hs : List RecordHearing) → AreInOrder hs → AreSecondsOf (Contains hs) (seconds_walked hs)
unfolding IsStrictlySortedBy
AreSecondsOf-walked [] o = grind (arith, Contains-nil)
AreSecondsOf-walked (h ∷ hs) o =
    seconds-between {P = Contains (h ∷ h ∷ hs)} {Q = Contains (h ∷ hs)}
    (λ x m. elim (Contains-cases h (h ∷ hs) x m) [
      | inl same ↦ subst (Contains (h ∷ hs)) same (Contains-head h hs)
      | inr rest ↦ rest
    ]) (λ x m. between-itself {P = Contains (h ∷ h ∷ hs)} x (Contains-later h (h ∷ hs) x m)) (seconds_from (heard_once h) hs)
    (AreSecondsOf-from hs (heard_once h) (record { in_order = (IsUpTo-itself h, o); same = refl }))

-- ---- one list of seconds

-- each second is after one that is before them all
pub after-second : (n : ℕ) (seconds : List SecondHeard) (s : SecondHeard)
    → AllByRecursion (λ m. nat_cmp n m ≡ Less) (map number_of seconds) → Contains seconds s → n < number_of s
after-second n [] s all among = absurd (omega (arith, among.1))
after-second n (first ∷ seconds) s all among = grind (arith, Contains-cases, ranked, after-second n seconds s all.1)

-- what follows the first is among what follows the first of the others
rest-within : (x y : SecondHeard) (xs ys : List SecondHeard) → x ≡ y → AllByRecursion (λ m. nat_cmp (number_of x) m ≡ Less) (map number_of xs)
    → ((s : SecondHeard) → Contains (x ∷ xs) s → Contains (y ∷ ys) s) → (s : SecondHeard) → Contains xs s → Contains ys s
rest-within x y xs ys same after into s among =
    let past = after-second (number_of x) xs s after among in
    elim (Contains-cases y ys s (into s (Contains-later x xs s among))) [
      | inl is ↦ absurd (omega (arith, past, ap number_of (same ∙ is)))
      | inr found ↦ found
    ]

-- seconds in order with the same members are the same
same-members : (xs ys : List SecondHeard) → IsStrictlySortedBy nat_cmp (map number_of xs)
    → IsStrictlySortedBy nat_cmp (map number_of ys) → ((s : SecondHeard) → Contains xs s → Contains ys s)
    → ((s : SecondHeard) → Contains ys s → Contains xs s) → xs ≡ ys
unfolding IsStrictlySortedBy
same-members [] [] p q into back = refl
same-members [] (y ∷ ys) p q into back = absurd (omega (arith, (back y (Contains-head y ys)).1))
same-members (x ∷ xs) [] p q into back = absurd (omega (arith, (into x (Contains-head x xs)).1))
same-members (x ∷ xs) (y ∷ ys) p q into back =
    let first : x ≡ y = elim (Contains-cases y ys x (into x (Contains-head x xs))) [
      | inl is ↦ sym is
      | inr after ↦ elim (Contains-cases x xs y (back y (Contains-head y ys))) [
        | inl is ↦ is
        | inr before ↦ absurd (omega (arith, after-second (number_of x) xs y p.0 before, after-second (number_of y) ys x q.0 after))
      ]
    ] in
    let rest = same-members xs ys p.1 q.1 (rest-within x y xs ys first p.0 into) (rest-within y x ys xs (sym first) q.0 back) in
    λ i. first i ∷ rest i

abbrev second_by : Ends → SecondHeard
second_by e = record { first = e.least; last = e.greatest }

module _ (IsThere : RecordHearing → Type 0) where
  seconds-within : (xs ys : List SecondHeard) → AreSecondsOf IsThere xs → AreSecondsOf IsThere ys
      → (s : SecondHeard) → Contains xs s → Contains ys s
  seconds-within xs ys are too s among =
      let own = are.each s among in
      let found = too.all s.first own.least_there in
      let other : AreEnds IsThere (number_of s) (ends found.0.first found.0.last) =
      subst (λ (n : ℕ). AreEnds IsThere n (ends found.0.first found.0.last)) found.2 (too.each found.0 found.1) in
      let same = same_Some (ends s.first s.last) (ends found.0.first found.0.last)
      (same_ends_in {P = IsThere} {Q = IsThere} (λ h there. there) (λ h there. between-itself h there) (number_of s)
      (Some (ends s.first s.last)) (Some (ends found.0.first found.0.last)) own other) in
      subst (λ (t : SecondHeard). Contains ys t) (sym (ap second_by same)) found.1

  pub one-seconds : (xs ys : List SecondHeard) → AreSecondsOf IsThere xs → AreSecondsOf IsThere ys → xs ≡ ys
  one-seconds xs ys are too = search (arith, same-members, seconds-within)

-- ---- the seconds that are held

module _ (P : RecordHearing → Type 0) (held : Seconds) (are : IsSeconds held) (at : (s : ℕ) → AreEndsIn P s (value_at nat_cmp s held)) where
  listed-seconds : AreSecondsOf P (seconds_walked (listed_ends held))
  listed-seconds =
      let listed = listed_ends held in
      seconds-between {P = Contains listed} {Q = P} (listed-among P held are at) (listed-between P held are at) (seconds_walked listed)
      (AreSecondsOf-walked listed (listed-in_order P held are at))

-- the seconds that a walk over all hearings gives are those that a walk over the listed ones gives
pub seconds_listed : (hs : List RecordHearing) (held : Seconds) → AreInOrder hs → seconds_of hs ≡ held
    → seconds_walked hs ≡ seconds_walked (listed_ends held)
seconds_listed hs held o view =
    subst (λ (v : Seconds). seconds_walked hs ≡ seconds_walked (listed_ends v)) view
    (one-seconds (Contains hs) (seconds_walked hs) (seconds_walked (listed_ends (seconds_of hs))) (AreSecondsOf-walked hs o)
    (listed-seconds (Contains hs) (seconds_of hs) (IsSeconds-of hs) (at-seconds_of hs)))

-- where nothing is held, nothing was heard
pub AreSecondsOf-none : (P : RecordHearing → Type 0) → ((s : ℕ) → AreEndsIn P s None) → AreSecondsOf P []
unfolding IsStrictlySortedBy
AreSecondsOf-none P at = grind (arith, Contains-nil)

-- ---- a record of a chronicle

module _ (c : Accounts) (heard : List Hearing) (stands : Chronicles c heard) (key : Key) where
  held-by : (o : Option Account) → value_at key_cmp key c.records ≡ o
      → AreSecondsHeard heard key (seconds_walked (listed_ends (unwrap_or (history_in o) [])))
  held-by None is =
      AreSecondsOf-none (IsHeardAs heard key)
      (λ s. subst (λ (o : Option Account). AreEndsIn (IsHeardAs heard key) s (ends_at s (history_in o))) is (stands.histories key s))
  held-by (Some account) is =
      listed-seconds (IsHeardAs heard key) account.history
      (subst (ValidAt IsAccount) is (valid_at key_cmp-total key_cmp-exact account-laws key c.records stands.accounts.records.valid))
      (λ s. subst (λ (o : Option Account). AreEndsIn (IsHeardAs heard key) s (ends_at s (history_in o))) is (stands.histories key s))

  -- the seconds that are held of a record are those in which it was heard
  pub heard-held : AreSecondsHeard heard key (seconds_held c key)
  heard-held = held-by (value_at key_cmp key c.records) refl
