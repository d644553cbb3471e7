-- The hearings that seconds hold, as a list in order, give the lives by all hearings.
use Rattle.std.proofs.Common.{◌≡◌, ℕ, true, List, [], ◌∷◌, Option, None, Some, Contains, refl, subst, inl, inr, arith}
use Rattle.std.proofs.lemmas.{Cmp.{eq_by_cmp_equiv}, Map.Keys.{IsDistinct-from_sorted}, Map.Lookups.{exact_unsigned}}
use Rattle.std.proofs.lemmas.Map.Views.{Contains-from_lookup, lookup-from_Contains}
use Rattle.std.specs.{declared.cmp.Ordering.TheVariants.{Less}, Ordering.{nat_cmp, eq_by_cmp}, Cmp.{nat_cmp_total}, List.{AllByRecursion}}
use Rattle.std.specs.{List.Sorted.{IsStrictlySortedBy}, Map.{keys_of}}
use Rattle.join_map.specs.{Entries.{value_at}, laws.Entries.{is_Equal}}
use Rattle.mdns_cache.proofs.StandsPartLemmas.{Contains-nil, Contains-head, Contains-later, Contains-cases}
use Rattle.mdns_lives.specs.{declared.life.RecordHearing.{RecordHearing}, History.{IsUpTo, AreInOrder}, Seconds.{second_of, IsBetween}}
use Rattle.mdns_lives.specs.{Seconds.{AreEndsOf, Ends, AreEnds, AreEndsIn, Seconds, IsSeconds, seconds_of, listed_ends}, LifeWalk.{walked}}
use Rattle.mdns_lives.proofs.{EndsLemmas.{AreLivesBy-from_ends}, OneListLemmas.{one_list}, SecondsLemmas.{IsSeconds-of, at-seconds_of}}
use Rattle.mdns_lives.proofs.WalkLemmas.{AreLivesBy-walked}

nat_eq-exact : (a b : ℕ) → eq_by_cmp nat_cmp a b ≡ true → a ≡ b
nat_eq-exact a b e = exact_unsigned a b (is_Equal (nat_cmp a b) e)

listed-entry : (entries : Seconds) (s : ℕ) (e : Ends) → Contains entries (s, e)
    → Contains (listed_ends entries) e.least × Contains (listed_ends entries) e.greatest
listed-entry [] s e m = absurd (Contains-nil (s, e) m)
listed-entry (f ∷ fs) s e m =
    let later : (h : RecordHearing) → Contains (listed_ends fs) h → Contains (listed_ends (f ∷ fs)) h =
    λ h w. Contains-later f.1.least (f.1.greatest ∷ listed_ends fs) h (Contains-later f.1.greatest (listed_ends fs) h w) in
    elim (Contains-cases f fs (s, e) m) [
      | inl same ↦ subst (λ (g : ℕ × Ends). Contains (listed_ends (f ∷ fs)) g.1.least × Contains (listed_ends (f ∷ fs)) g.1.greatest)
          same (
            Contains-head f.1.least (f.1.greatest ∷ listed_ends fs),
            Contains-later f.1.least (f.1.greatest ∷ listed_ends fs) f.1.greatest (Contains-head f.1.greatest (listed_ends fs)),
          )
      | inr rest ↦ (let w = listed-entry fs s e rest in (later e.least w.0, later e.greatest w.1))
    ]

module _ (P : RecordHearing → Type 0) where
  -- each entry has the ends of its second
  abbrev AllEnds : Seconds → Type 0
  AllEnds entries = AllByRecursion (λ (e : ℕ × Ends). AreEnds P e.0 e.1) entries

  up : (e : ℕ × Ends) → AreEnds P e.0 e.1 → IsUpTo e.1.least e.1.greatest
  up e a = (a.between e.1.least a.least_there a.least_in).1

  onward : (e f : ℕ × Ends) → nat_cmp e.0 f.0 ≡ Less → AreEnds P e.0 e.1 → AreEnds P f.0 f.1 → IsUpTo e.1.greatest f.1.least
  onward e f l a b = grind arith

  in_order : (entries : Seconds) → IsStrictlySortedBy nat_cmp (keys_of entries) → AllEnds entries → AreInOrder (listed_ends entries)
  unfolding IsStrictlySortedBy
  in_order [] s a = tt
  in_order (e ∷ []) s a = (up e a.0, tt)
  in_order (e ∷ f ∷ fs) s a = (up e a.0, (onward e f s.0.0 a.0 a.1.0, in_order (f ∷ fs) s.1 a.1))

  listed-there : (entries : Seconds) → AllEnds entries → (h : RecordHearing) → Contains (listed_ends entries) h → P h
  listed-there [] a h m = absurd (Contains-nil h m)
  listed-there (e ∷ es) a h m = grind (arith, Contains-cases, listed-there es a.1 h)

  module _ (all : Seconds) (are : IsSeconds all) (at : (s : ℕ) → AreEndsIn P s (value_at nat_cmp s all)) where
    all_ends : (entries : Seconds) → ((e : ℕ × Ends) → Contains entries e → Contains all e) → AllEnds entries
    all_ends [] within = tt
    all_ends (e ∷ es) within = (
      subst (λ (o : Option Ends). AreEndsIn P e.0 o) (lookup-from_Contains (eq_by_cmp_equiv nat_cmp_total) e.0 e.1 all
          (IsDistinct-from_sorted nat_cmp (keys_of all) are.sorted) (within e (Contains-head e es))) (at e.0),
      all_ends es (λ f m. within f (Contains-later e es f m)),
    )

    pub listed-in_order : AreInOrder (listed_ends all)
    listed-in_order = in_order all are.sorted (all_ends all (λ e m. m))

    pub listed-among : (h : RecordHearing) → Contains (listed_ends all) h → P h
    listed-among = listed-there all (all_ends all (λ e m. m))

    pub listed-between : (h : RecordHearing) → P h → IsBetween (Contains (listed_ends all)) h
    listed-between h p = by (value_at nat_cmp (second_of h) all) refl (at (second_of h))
      where
        by : (o : Option Ends) → value_at nat_cmp (second_of h) all ≡ o → AreEndsIn P (second_of h) o
            → IsBetween (Contains (listed_ends all)) h
        by None e none = absurd (none h p refl)
        by (Some x) e ends =
            let there = listed-entry all (second_of h) x (Contains-from_lookup nat_eq-exact (second_of h) x all e) in
            let within = ends.between h p refl in
            record {
              least = x.least;
              greatest = x.greatest;
              least_there = there.0;
              greatest_there = there.1;
              least_in = ends.least_in;
              greatest_in = ends.greatest_in;
              from_least = within.0;
              to_greatest = within.1;
            }

-- the lives that a walk over all hearings gives are those that a walk over the listed ones gives
pub walked_listed : (flushes : List ℕ) (hs : List RecordHearing) (value : Seconds) → AreInOrder hs → seconds_of hs ≡ value
    → walked flushes hs ≡ walked flushes (listed_ends value)
walked_listed flushes hs value o view = subst (λ (v : Seconds). walked flushes hs ≡ walked flushes (listed_ends v)) view same
  where
    same : walked flushes hs ≡ walked flushes (listed_ends (seconds_of hs))
    same =
        let are = IsSeconds-of hs in
        let listed = listed_ends (seconds_of hs) in
        let ends : AreEndsOf hs listed = record {
          among = listed-among (Contains hs) (seconds_of hs) are (at-seconds_of hs);
          between = listed-between (Contains hs) (seconds_of hs) are (at-seconds_of hs);
        } in
        let in_order = listed-in_order (Contains hs) (seconds_of hs) are (at-seconds_of hs) in
        one_list hs flushes (walked flushes hs) (walked flushes listed) (AreLivesBy-walked flushes hs o)
        (AreLivesBy-from_ends flushes hs listed ends (walked flushes listed) (AreLivesBy-walked flushes listed in_order))
