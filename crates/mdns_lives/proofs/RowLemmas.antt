-- The rows of a chronicle are the records that were heard, with their lives.
use Rattle.std.proofs.Common.{arith, ◌≡◌, ◌↔◌, ℕ, true, List, [], ◌∷◌, map, Option, None, Some, Contains, MatchOption}
use Rattle.std.proofs.{Common.{refl, sym, ap, ◌∙◌, subst, unwrap_or, true≢false}, lemmas.Cmp.{eq_by_cmp_equiv}}
use Rattle.std.proofs.lemmas.Map.{Views.{Contains-from_lookup, lookup-from_Contains}, Keys.{IsDistinct-from_sorted}}
use Rattle.std.specs.{List.{AllByRecursion}, List.Sorted.{IsStrictlySortedBy}, declared.cmp.Ordering.TheVariants.{Less}, Map.{keys_of}}
use Rattle.mdns_capture.specs.declared.moment.Moment.{Moment}
use Rattle.mdns_message.specs.{declared.hearing.Hearing.{Hearing}, declared.key.Key.{Key}, RecordSet.{RecordSet}}
use Rattle.mdns_message.specs.{Resource.{key_cmp, set_key_cmp}, laws.Resource.{key_cmp-total, key_cmp-exact}}
use Rattle.mdns_join.specs.{declared.latest.Latest.{Latest}, Kept.{has}}
use Rattle.join_map.specs.{Entries.{value_at}, laws.Entries.{ValidAt, valid_at, sorted_above, sorted_rest}}
use Rattle.mdns_cache.specs.Live.{IsUnheard, IsLast, key_of_last}
use Rattle.mdns_cache.proofs.StandsPartLemmas.{same-itself, IsLast-same, Contains-head, Contains-later, Contains-map, from_map}
use Rattle.mdns_cache.proofs.{MeaningLemmas.{key_eq-exact}, LiveWalkLemmas.{key_after}}
use Rattle.mdns_join.proofs.FlushWalkLemmas.{HasLater}
use Rattle.mdns_lives.specs.declared.{account.Account.{Account}, life.RecordHearing.{RecordHearing}, life.Life.{Life}}
use Rattle.mdns_lives.specs.{Account.{IsAccount}, Lives.{AreLives, IsGoodbyeOf}, History.{IsHeardAs, IsHistory, AreFlushes, AreLivesBy}}
use Rattle.mdns_lives.specs.{Seconds.{AreEndsOf, AreEndsIn, ends_at, listed_ends}, laws.Account.{account-laws}}
use Rattle.mdns_lives.specs.{LentLives.{flushes_held, row_held, rows_by}, LifeWalk.{walked, with_taken_back}}
use Rattle.mdns_lives.specs.Chronicle.{Accounts, Chronicles, AreAllLives, latest_in, history_in, goodbye_in, IsFlushIn, rows_of}
use Rattle.mdns_lives.proofs.{EndsLemmas.{AreLivesBy-from_ends}, ListedLemmas.{listed-in_order, listed-among, listed-between}}
use Rattle.mdns_lives.proofs.{SomeLivesLemmas.{some_history}, WalkLemmas.{AreLivesBy-walked}}

-- a row: the last hearing of a record, and its lives
abbrev pub Row : Type 0
Row = Latest × List Life

abbrev pub record_in : Row → Key
record_in row = key_of_last row.0

-- ---- rows of entries

module _ (flushes : List (RecordSet × List ℕ)) where
  records_own : (es : List (Key × Account)) → ((k : Key) (a : Account) → Contains es (k, a) → key_of_last a.latest ≡ k)
      → map record_in (rows_by flushes es) ≡ keys_of es
  records_own [] own = refl
  records_own (e ∷ es) own = search (arith, Contains-head, Contains-later, records_own es (λ k a m. own k a (Contains-later e es (k, a) m)))

flush_in-held : (o : Option (List ℕ)) (m : ℕ) → (has (unwrap_or o []) m ≡ true) ↔ IsFlushIn o m
flush_in-held None m = (λ h. absurd (true≢false (sym h)), λ h. absurd h)
flush_in-held (Some ms) m = (λ h. h, λ h. h)

-- the lives of a record are those by its history (`lives_by_history`)
abbrev pub ByHistory : Type 0
ByHistory = (heard : List Hearing) (key : Key) (history : List RecordHearing) (flushes : List ℕ) (goodbye : Option Moment)
    (lives : List Life) → IsHistory heard key history → AreFlushes heard key.set flushes → IsGoodbyeOf heard key goodbye
    → AreLivesBy history flushes lives → AreLives heard key (map (with_taken_back goodbye) lives)

module _ (by_history : ByHistory) (c : Accounts) (heard : List Hearing) (s : Chronicles c heard) where
  module _ (k : Key) (a : Account) (m : Contains c.records (k, a)) where
    at : value_at key_cmp k c.records ≡ Some a
    at = lookup-from_Contains (eq_by_cmp_equiv key_cmp-total) k a c.records
        (IsDistinct-from_sorted key_cmp (keys_of c.records) s.accounts.records.sorted) m

    last_of_entry : IsLast heard k a.latest
    last_of_entry =
        subst (λ (o : Option Account). MatchOption (latest_in o) (IsUnheard heard k) (IsLast heard k)) at (s.lasts k)

    own : key_of_last a.latest ≡ k
    own = sym (ap key_of_last last_of_entry.gives) ∙ last_of_entry.of_record

    is_account : IsAccount a
    is_account = subst (ValidAt IsAccount) at (valid_at key_cmp-total key_cmp-exact account-laws k c.records s.accounts.records.valid)

    ends_of_entry : (q : ℕ) → AreEndsIn (IsHeardAs heard k) q (ends_at q (Some a.history))
    ends_of_entry q = subst (λ (o : Option Account). AreEndsIn (IsHeardAs heard k) q (ends_at q (history_in o))) at (s.histories k q)

    are_flushes : AreFlushes heard k.set (flushes_held c.flushes k.set)
    are_flushes q =
        let held = flush_in-held (value_at set_key_cmp k.set c.flushes) q in
        let flushed = s.flushes k.set q in
        (λ h. flushed.0 (held.0 h), λ w. held.1 (flushed.1 w))

    goodbye_of_entry : IsGoodbyeOf heard k a.goodbye
    goodbye_of_entry = subst (λ (o : Option Account). IsGoodbyeOf heard k (goodbye_in o)) at (s.goodbyes k)

    lives_of_entry : AreLives heard k (map (with_taken_back a.goodbye) (walked (flushes_held c.flushes k.set) (listed_ends a.history)))
    lives_of_entry =
        let all = some_history heard k in
        let listed = listed_ends a.history in
        let flushes = flushes_held c.flushes k.set in
        let ends : AreEndsOf all.history listed = record {
          among = λ h m. (all.is_history h).1 (listed-among (IsHeardAs heard k) a.history is_account ends_of_entry h m);
          between = λ h m. listed-between (IsHeardAs heard k) a.history is_account ends_of_entry h ((all.is_history h).0 m);
        } in
        by_history heard k all.history flushes a.goodbye (walked flushes listed) all.is_history are_flushes goodbye_of_entry
        (AreLivesBy-from_ends flushes all.history listed ends (walked flushes listed)
        (AreLivesBy-walked flushes listed (listed-in_order (IsHeardAs heard k) a.history is_account ends_of_entry)))

  entry_of_last : (k : Key) (l : Latest) → IsLast heard k l → (a : Account) × Contains c.records (k, a) × (a.latest ≡ l)
  entry_of_last k l last = by (value_at key_cmp k c.records) refl (s.lasts k)
    where
      by : (o : Option Account) → value_at key_cmp k c.records ≡ o → MatchOption (latest_in o) (IsUnheard heard k) (IsLast heard k)
          → (a : Account) × Contains c.records (k, a) × (a.latest ≡ l)
      by None e u = absurd (u last.hearing last.among last.of_record)
      by (Some a) e u =
          (a, Contains-from_lookup key_eq-exact k a c.records e, IsLast-same heard heard (same-itself heard) k a.latest l u last)

  pub AreAllLives_rows : AreAllLives heard (rows_of c)
  AreAllLives_rows = record {
    ascending = subst (IsStrictlySortedBy key_cmp) (sym (records_own c.flushes c.records own)) s.accounts.records.sorted;
    each = λ l lives m.
        let w = from_map (row_held c.flushes) c.records (l, lives) m in
        let e = w.0 in
        subst (λ (row : Row). IsLast heard (key_of_last row.0) row.0 × AreLives heard (key_of_last row.0) row.1) w.1
        (subst (λ (k : Key). IsLast heard k e.1.latest
        × AreLives heard k (map (with_taken_back e.1.goodbye) (walked (flushes_held c.flushes e.0.set) (listed_ends e.1.history))))
        (sym (own e.0 e.1 w.2))
        (last_of_entry e.0 e.1 w.2, lives_of_entry e.0 e.1 w.2));
    all = λ key l last.
        let w = entry_of_last key l last in
        let lives = map (with_taken_back w.0.goodbye) (walked (flushes_held c.flushes key.set) (listed_ends w.0.history)) in (
          lives,
          grind (arith, Contains-map (row_held c.flushes) c.records (key, w.0) w.1),
        );
  }

-- ---- one row of a walk

rows_later : (old new : List (RecordSet × List ℕ)) (key : Key) (es : List (Key × Account))
    → AllByRecursion (λ k. key_cmp key k ≡ Less) (keys_of es) → HasLater key.set old new → rows_by new es ≡ rows_by old es
rows_later old new key [] a has = refl
rows_later old new key (e ∷ es) a has = grind (arith, unwrap_or, key_after, rows_later old new key es a.1 has)

module _ (old new : List (RecordSet × List ℕ)) (entries rest : List (Key × Account)) (key : Key) (a : Account)
    (is : entries ≡ (key, a) ∷ rest) (sorted : IsStrictlySortedBy key_cmp (keys_of entries)) where
  sorted_is : IsStrictlySortedBy key_cmp (keys_of ((key, a) ∷ rest))
  sorted_is = subst (λ (es : List (Key × Account)). IsStrictlySortedBy key_cmp (keys_of es)) is sorted

  pub rest_sorted : IsStrictlySortedBy key_cmp (keys_of rest)
  rest_sorted = sorted_rest key_cmp-total key_cmp-exact (key, a) rest sorted_is

  -- the next row, and those after it
  pub row_next : HasLater key.set old new → (last : Latest) (lives : List Life) → last ≡ a.latest
      → lives ≡ map (with_taken_back a.goodbye) (walked (flushes_held old key.set) (listed_ends a.history))
      → rows_by old entries ≡ (last, lives) ∷ rows_by new rest
  row_next later last lives e f =
      grind (arith, rows_later old new key rest (sorted_above key_cmp-total key_cmp-exact (key, a) rest sorted_is) later)
