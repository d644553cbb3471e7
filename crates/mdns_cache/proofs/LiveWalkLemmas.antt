-- Walking over the records and their flush moments, both in key order.
use Rattle.std.proofs.Common.{◌≡◌, ◌≢◌, ℕ, ◌<◌, ◌≤◌, Bool, true, false, nat_lt, List, [], ◌∷◌, refl, sym, subst}
use Rattle.std.proofs.Common.{if◌then◌else◌, lt-ltb, le-ltb}
use Rattle.std.specs.{declared.cmp.Ordering.{Ordering}, declared.cmp.Ordering.TheVariants.{Less, Equal, Greater}, Ordering.{ordering_then}}
use Rattle.std.specs.{List.{AllByRecursion}, List.Sorted.{IsStrictlySortedBy}, Map.{keys_of}}
use Rattle.mdns_message.specs.{declared.key.Key.{Key}, RecordSet.{RecordSet}, Resource.{key_cmp, set_key_cmp}}
use Rattle.mdns_message.specs.laws.Resource.{key_cmp-total, key_cmp-exact}
use Rattle.mdns_join.specs.declared.latest.Latest.{Latest}
use Rattle.join_map.specs.laws.Entries.{sorted_above, sorted_rest}
use Rattle.mdns_cache.specs.{LentRecords.{end_held, live_of}}
use Rattle.mdns_join.proofs.FlushWalkLemmas.{HasLater}
use Rattle.std.proofs.Common.{arith}

-- ---- records in key order

then_less : (o p : Ordering) → ordering_then o p ≡ Less → o ≢ Greater
then_less Less p h = λ e. cc
then_less Equal p h = λ e. cc
then_less Greater p h = absurd (cc)

-- the sets of later keys aren't before that of this one
pub key_after : (key later : Key) → key_cmp key later ≡ Less → set_key_cmp key.set later.set ≢ Greater
key_after key later h = then_less (set_key_cmp key.set later.set) _ h

-- the records after the key end as they did
pub live_of-later : (old new : List (RecordSet × List ℕ)) (now : ℕ) (key : Key) (es : List (Key × Latest))
    → AllByRecursion (λ k. key_cmp key k ≡ Less) (keys_of es) → HasLater key.set old new → live_of new now es ≡ live_of old now es
live_of-later old new now key [] a has = refl
live_of-later old new now key (e ∷ es) a has = grind (arith, live_of-later old new now key es a.1 has, key_after)

-- ---- the walk over both

-- the records and flush moments that are left give the records that end later than `now` and are left of all
pub record Shows (flushes left : List (RecordSet × List ℕ)) (now : ℕ) (all entries : List (Key × Latest)) : Type 0 where
  pub same : live_of left now entries ≡ live_of flushes now all
  pub sorted : IsStrictlySortedBy key_cmp (keys_of entries)

module _ (flushes left : List (RecordSet × List ℕ)) (now : ℕ) (all entries : List (Key × Latest))
    (s : Shows flushes left now all entries) (e : Key × Latest) (rest : List (Key × Latest)) (is : entries ≡ e ∷ rest)
    (new : List (RecordSet × List ℕ)) (later : HasLater e.0.set left new) where
  sorted_entries : IsStrictlySortedBy key_cmp (keys_of (e ∷ rest))
  sorted_entries = subst (λ (es : List (Key × Latest)). IsStrictlySortedBy key_cmp (keys_of es)) is s.sorted

  pub rest_sorted : IsStrictlySortedBy key_cmp (keys_of rest)
  rest_sorted = sorted_rest key_cmp-total key_cmp-exact e rest sorted_entries

  rest_same : live_of new now rest ≡ live_of left now rest
  rest_same = live_of-later left new now e.0 rest (sorted_above key_cmp-total key_cmp-exact e rest sorted_entries) later

  shows : (t : Bool) → nat_lt now (end_held left e) ≡ t
      → live_of flushes now all ≡ (if t then (e.1, end_held left e) ∷ live_of new now rest else live_of new now rest)
  shows t h = grind (arith, rest_same)

  pub shows_next : now < end_held left e → live_of flushes now all ≡ (e.1, end_held left e) ∷ live_of new now rest
  shows_next l = shows true (lt-ltb now (end_held left e) l)

  pub shows_rest : end_held left e ≤ now → Shows flushes new now all rest
  shows_rest l = record { same = sym (shows false (le-ltb now (end_held left e) l)); sorted = rest_sorted }
