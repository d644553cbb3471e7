-- A hearing at each of some moments: what its contents stand for.
use Rattle.std.proofs.Common.{rules, Contains, MatchOption, Result, OnOk, OnErr, refl, sym, ap, ◌∙◌, subst, arith}
use Rattle.std.proofs.Common.{◌≡◌, ◌≢◌, ◌↔◌, ℕ, ◌≤◌, Bool, true, false, ◌&&◌, ◌==◌, cond, List, [], ◌∷◌}
use Rattle.std.proofs.{Common.{◌++◌, None, Some, if◌then◌else◌, true≢false}, lemmas.Result.{on_err_weaker}}
use Rattle.std.specs.{declared.cmp.Ordering.TheVariants.{Greater}, Ordering.{nat_cmp, is_eq}, Cmp.{tied_itself}}
use Rattle.mdns_capture.specs.declared.moment.Moment.{Moment}
use Rattle.mdns_message.specs.{declared.hearing.Hearing.{Hearing}, declared.key.Key.{Key}, RecordSet.{RecordSet}}
use Rattle.mdns_message.specs.Resource.{key_of, key_cmp, set_key_of, set_key_cmp}
use Rattle.mdns_message.specs.laws.Resource.{key_cmp-total, key_cmp-exact, set_key_cmp-total, set_key_cmp-exact}
use Rattle.join_map.specs.Entries.{AllFit, value_at, joined, gathered, one_entry, IsJoinMap}
use Rattle.join_map.specs.laws.Entries.{is_Equal, IsJoinMap-none, IsJoinMap-one}
use Rattle.mdns_join.specs.{Latest.{latest_cmp, latest_of}, Kept.{has, union, ascending, IsAscending}}
use Rattle.mdns_join.specs.{laws.Kept.{has-ascending, IsAscending-ascending}, Nanos.{nanos_of}}
use Rattle.mdns_cache.specs.{Live.{IsUnheard, IsLast, IsNewest, IsFlushedAt, is_flush_of}, Repeats.{at_each}}
use Rattle.mdns_cache.proofs.StandsPartLemmas.{Contains-nil, Contains-head, Contains-cases, Contains-map, from_map, IsFlushedAt-from_has}
use Rattle.mdns_cache.proofs.{StandsPartLemmas.{has-from_flushed}, MeaningLemmas.{flushed}, RepeatLemmas.{no_greater}}
use Rattle.mdns_cache.proofs.GatheringLemmas.{valid_after}
use Rattle.mdns_lives.specs.declared.{account.Account.{Account}, life.RecordHearing.{RecordHearing}}
use Rattle.mdns_lives.specs.{Account.{join_account, IsAccount, IsOwnAccount}, History.{heard_of, IsHeardAs}}
use Rattle.mdns_lives.specs.{Seconds.{AreEndsIn, IsRoomFor, seconds_of, ends_at}, laws.Account.{account-laws}, laws.Flushes.{union-laws}}
use Rattle.mdns_lives.specs.Chronicle.{Accounts, AreAccounts, AreGathered, Chronicles, accounts_of, join_accounts, latest_in, history_in}
use Rattle.mdns_lives.specs.{Chronicle.{goodbye_in}, Lives.{IsGoodbyeOf, goodbyes_of}}
use Rattle.mdns_lives.specs.{Chronicle.{IsFlushIn}, Each.{IsLatestIn, heard_with, heard_each, account_each, flushes_each, accounts_each}}
use Rattle.mdns_lives.proofs.{ChronicleLemmas.{chronicles-join}, PartLemmas.{records-laws, flushes-laws}, HearingLemmas.{heard_at}}
use Rattle.mdns_lives.proofs.{RoomLemmas.{length-join}, SecondsLemmas.{ends-alike, at-seconds_of, IsSeconds-of, seconds_of_append}}

-- more hearings in the same room
pub room_appended : (hs gs more : List RecordHearing) (held room same : ℕ) → gs ≡ hs ++ more → same ≡ room
    → IsRoomFor (seconds_of hs) held room → IsRoomFor (seconds_of gs) held same
room_appended hs gs more held room same is kept bound = grind (arith, length-join, seconds_of_append)

pub each_account : (h : Hearing) (ts : List Moment) → IsAccount (account_each h ts)
each_account h ts = IsSeconds-of (heard_each h.ttl ts)

each_flushes : (h : Hearing) (ts : List Moment) (b : Bool)
    → IsJoinMap set_key_cmp IsAscending (if b then one_entry (set_key_of h.heard) (ascending (nanos_of ts)) else [])
each_flushes h ts true = search (arith, IsJoinMap-one, set_key_cmp-total, set_key_cmp-exact, union-laws, IsAscending-ascending)
each_flushes h ts false = IsJoinMap-none set_key_cmp-total set_key_cmp-exact union-laws

pub accounts_each-valid : (h : Hearing) (ts : List Moment) → AreAccounts (accounts_each h ts)
accounts_each-valid h ts = search (rules, IsJoinMap-one, key_cmp-total, key_cmp-exact, account-laws, each_account, each_flushes)

-- ---- what they stand for

module _ (h : Hearing) (ts : List Moment) (latest : IsLatestIn ts h.moment) where
  itself : Contains (at_each ts h) h
  itself = Contains-map (λ (t : Moment). heard_at t h) ts h.moment latest.among

  IsLast-each : (key : Key) → key ≡ key_of h.heard → IsLast (at_each ts h) key (latest_of h)
  IsLast-each key e = record {
    hearing = h;
    among = itself;
    of_record = sym e;
    gives = refl;
    greatest = λ g m o. let f = from_map (λ (t : Moment). heard_at t h) ts g m in
        subst (λ (x : Hearing). latest_cmp (latest_of x) (latest_of h) ≢ Greater) f.1
        (no_greater (latest_of (heard_at f.0 h)) (latest_of h) (latest.greatest f.0 f.2) refl refl);
  }

  -- another record wasn't heard
  unlike : (key : Key) → is_eq (key_cmp key (key_of h.heard)) ≡ false → (g : Hearing) → Contains (at_each ts h) g
      → key_of g.heard ≡ key → ⊥
  unlike key e g m o = grind (arith, from_map (λ (t : Moment). heard_at t h) ts g m, true≢false, tied_itself key_cmp-total key)

  lasts-each : (key : Key) (b : Bool) → is_eq (key_cmp key (key_of h.heard)) ≡ b
      → MatchOption (latest_in (cond b (Some (account_each h ts)) None)) (IsUnheard (at_each ts h) key) (IsLast (at_each ts h) key)
  lasts-each key true e = IsLast-each key (key_cmp-exact key (key_of h.heard) (is_Equal (key_cmp key (key_of h.heard)) e))
  lasts-each key false e = λ g m o. unlike key e g m o

  histories-each : (key : Key) (s : ℕ) (b : Bool) → is_eq (key_cmp key (key_of h.heard)) ≡ b
      → AreEndsIn (IsHeardAs (at_each ts h) key) s (ends_at s (history_in (cond b (Some (account_each h ts)) None)))
  histories-each key s true e =
      let same = key_cmp-exact key (key_of h.heard) (is_Equal (key_cmp key (key_of h.heard)) e) in
      ends-alike {P = Contains (heard_each h.ttl ts)} {Q = IsHeardAs (at_each ts h) key}
      (λ x m. (let f = from_map (heard_with h.ttl) ts x m in
      record {
        hearing = heard_at f.0 h;
        among = Contains-map (λ (t : Moment). heard_at t h) ts f.0 f.2;
        of_record = sym same;
        gives = f.1;
      }))
      (λ x w. (let f = from_map (λ (t : Moment). heard_at t h) ts w.hearing w.among in
      subst (Contains (heard_each h.ttl ts)) (ap heard_of f.1 ∙ w.gives) (Contains-map (heard_with h.ttl) ts f.0 f.2)))
      s (value_at nat_cmp s (seconds_of (heard_each h.ttl ts))) (at-seconds_of (heard_each h.ttl ts) s)
  histories-each key s false e = λ x w _. unlike key e w.hearing w.among w.of_record

  newest-each : IsNewest (at_each ts h) h.moment
  newest-each = record {
    hearing = h;
    among = itself;
    at_it = refl;
    latest = λ g m. let f = from_map (λ (t : Moment). heard_at t h) ts g m in
        subst (λ (x : Hearing). x.moment.nanos ≤ h.moment.nanos) f.1 (latest.greatest f.0 f.2);
  }

  -- it is a goodbye of the record at each moment, or at none
  abbrev is_goodbye : Key → Bool
  is_goodbye key = is_eq (key_cmp key (key_of h.heard)) && h.ttl == 0

  goodbyes-at : (key : Key) (us : List Moment) → goodbyes_of (at_each us h) key ≡ cond (is_goodbye key) (at_each us h) []
  goodbyes-at key [] = grind arith
  goodbyes-at key (u ∷ us) = grind (arith, goodbyes-at key us)

  goodbye-in : (is : Bool) → goodbye_in (cond is (Some (account_each h ts)) None) ≡ cond (is && h.ttl == 0) (Some h.moment) None
  goodbye-in true = refl
  goodbye-in false = refl

  goodbyes-each : (key : Key)
      → IsGoodbyeOf (at_each ts h) key (goodbye_in (cond (is_eq (key_cmp key (key_of h.heard))) (Some (account_each h ts)) None))
  goodbyes-each key = rw (goodbyes-at key ts, goodbye-in (is_eq (key_cmp key (key_of h.heard)))) (by (is_goodbye key))
    where
      by : (b : Bool) → MatchOption (cond b (Some h.moment) None) (cond b (at_each ts h) [] ≡ []) (IsNewest (cond b (at_each ts h) []))
      by true = newest-each
      by false = refl

  value_in : (set : RecordSet) (f : Bool)
      → value_at set_key_cmp set (if f then one_entry (set_key_of h.heard) (ascending (nanos_of ts)) else [])
      ≡ cond (f && is_eq (set_key_cmp set (set_key_of h.heard))) (Some (ascending (nanos_of ts))) None
  value_in set true = refl
  value_in set false = refl

  in_ascending : (b : Bool) (m : ℕ)
      → IsFlushIn (cond b (Some (ascending (nanos_of ts))) None) m ↔ (has (cond b (nanos_of ts) []) m ≡ true)
  in_ascending true m = (λ e. sym (has-ascending (nanos_of ts) m) ∙ e, λ e. has-ascending (nanos_of ts) m ∙ e)
  in_ascending false m = (λ e. absurd e, λ e. absurd (true≢false (sym e)))

  flushes-at : (set : RecordSet) (m : ℕ) → IsFlushIn (value_at set_key_cmp set (flushes_each h ts)) m ↔ IsFlushedAt (at_each ts h) set m
  flushes-at set m =
      grind (arith, flushed h set ts, value_in set h.flush, IsFlushedAt-from_has, in_ascending (is_flush_of set h) m, has-from_flushed)

  pub stands-at_each : Chronicles (accounts_each h ts) (at_each ts h)
  stands-at_each = record {
    accounts = accounts_each-valid h ts;
    lasts = λ key. lasts-each key (is_eq (key_cmp key (key_of h.heard))) refl;
    histories = λ key s. histories-each key s (is_eq (key_cmp key (key_of h.heard))) refl;
    goodbyes = goodbyes-each;
    flushes = flushes-at;
    newest = newest-each;
  }

  -- a hearing more at each moment
  pub chronicles-at_each : (c new : Accounts) → new ≡ join_accounts c (accounts_each h ts)
      → (heard : List Hearing) → Chronicles c heard → Chronicles new (heard ++ at_each ts h)
  chronicles-at_each c new is heard s =
      grind (arith, chronicles-join c (accounts_each h ts) heard (at_each ts h) s stands-at_each, stands-at_each)

-- ---- one moment

pub latest-one : (m : Moment) → IsLatestIn (m ∷ []) m
latest-one m = grind (arith, Contains-head, Contains-cases, Contains-nil)

pub accounts_each-one : (h : Hearing) → accounts_each h (h.moment ∷ []) ≡ accounts_of h
unfolding seconds_of
accounts_each-one h = refl

-- ---- entries in any order

module _ {T E : Type 0} (r : Result T E) (rs : List (Key × Account)) (fs : List (RecordSet × List ℕ)) (u : AreGathered rs fs)
    (h : Hearing) (ts : List Moment) where
  pub records_gathered : (new : List (Key × Account)) → AllFit IsOwnAccount new
      → OnOk r (gathered key_cmp join_account new
      ≡ joined key_cmp join_account (gathered key_cmp join_account rs) (accounts_each h ts).records)
      → OnErr r (new ≡ rs) → AreGathered new fs
  records_gathered new own ok err = record {
    records = valid_after records-laws r (gathered key_cmp join_account rs) (accounts_each h ts).records
        (gathered key_cmp join_account new) u.records (accounts_each-valid h ts).records ok
        (on_err_weaker r (ap (gathered key_cmp join_account)) err);
    flushes = u.flushes;
    own = own;
  }

  pub flushes_gathered : (new : List (RecordSet × List ℕ))
      → OnOk r (gathered set_key_cmp union new
      ≡ joined set_key_cmp union (gathered set_key_cmp union fs) (one_entry (set_key_of h.heard) (ascending (nanos_of ts))))
      → OnErr r (new ≡ fs) → AreGathered rs new
  flushes_gathered new ok err = record {
    records = u.records;
    flushes = valid_after flushes-laws r (gathered set_key_cmp union fs)
        (one_entry (set_key_of h.heard) (ascending (nanos_of ts))) (gathered set_key_cmp union new) u.flushes
        (each_flushes h ts true) ok (on_err_weaker r (ap (gathered set_key_cmp union)) err);
    own = u.own;
  }
