-- The contents of a chronicle, the hearings that they stand for, and the lives of all records.
use Rattle.std.specs.Prelude.{◌≡◌, ℕ, ◌↔◌, true, nat_lt, List, [], ◌∷◌, map, Option, None, Some, MatchOption, Contains, if◌then◌else◌}
use Rattle.std.specs.{List.{filter, flat_map}, List.Sorted.{IsStrictlySortedBy}}
use Rattle.mdns_capture.specs.declared.moment.Moment.{Moment}
use Rattle.mdns_message.specs.{declared.hearing.Hearing.{Hearing}, declared.key.Key.{Key}, RecordSet.{RecordSet}}
use Rattle.mdns_message.specs.Resource.{key_of, key_cmp, set_key_of, set_key_cmp}
use Rattle.join_map.specs.Entries.{AllFit, value_at, joined, joined_at, gathered, one_entry, IsJoinMap}
use Rattle.mdns_join.specs.{declared.latest.Latest.{Latest}, Kept.{has, union, IsAscending}}
use Rattle.mdns_cache.specs.{Contents.{later_moment}, Live.{IsUnheard, IsLast, IsNewest, IsFlushedAt, key_of_last}}
use Rattle.mdns_lives.specs.declared.{account.Account.{Account}, life.Life.{Life}}
use Rattle.mdns_lives.specs.{Account.{IsAccount, IsOwnAccount, account_of, join_account}, History.{IsHeardAs}, Lives.{AreLives}}
use Rattle.mdns_lives.specs.{Lives.{IsGoodbyeOf}, LentLives.{rows_by}, Seconds.{Seconds, Ends, AreEndsIn, ends_at}}

-- ---- the lives of all records

-- the rows are the records that were heard, each once, in key order, by their last hearings, and with their lives
pub record AreAllLives (heard : List Hearing) (rows : List (Latest × List Life)) : Type 0 where
  pub ascending : IsStrictlySortedBy key_cmp (map (λ (row : Latest × List Life). key_of_last row.0) rows)
  pub each : (l : Latest) (lives : List Life) → Contains rows (l, lives)
      → IsLast heard (key_of_last l) l × AreLives heard (key_of_last l) lives
  pub all : (key : Key) (l : Latest) → IsLast heard key l → (lives : List Life) × Contains rows (l, lives)

-- the lives that go on after `end`, each with its record's last hearing and its own end
abbrev pub live_rows : ℕ → List (Latest × List Life) → List (Latest × ℕ)
live_rows end rows =
    flat_map (λ (row : Latest × List Life).
    map (λ (life : Life). (row.0, life.until)) (filter (λ (life : Life). nat_lt end life.until) row.1)) rows

-- ---- contents

-- the contents of a chronicle: the account of each record and the flush moments of each record set, both in key order,
-- and the newest moment
pub record Accounts : Type 0 where
  pub records : List (Key × Account)
  pub flushes : List (RecordSet × List ℕ)
  pub newest : Option Moment

-- contents by their parts
abbrev pub accounts : List (Key × Account) → List (RecordSet × List ℕ) → Option Moment → Accounts
accounts records flushes newest = record { records = records; flushes = flushes; newest = newest }

-- the contents of entries in any order
abbrev pub accounts_gathered : List (Key × Account) → List (RecordSet × List ℕ) → Option Moment → Accounts
accounts_gathered records flushes newest =
    accounts (gathered key_cmp join_account records) (gathered set_key_cmp union flushes) newest

-- entries in any order whose maps are in key order, and each of which is of its record
pub record AreGathered (rs : List (Key × Account)) (fs : List (RecordSet × List ℕ)) : Type 0 where
  pub records : IsJoinMap key_cmp IsAccount (gathered key_cmp join_account rs)
  pub flushes : IsJoinMap set_key_cmp IsAscending (gathered set_key_cmp union fs)
  pub own : AllFit IsOwnAccount rs

-- nothing was heard
abbrev pub no_accounts : Accounts
no_accounts = accounts [] [] None

-- both maps are in key order
pub record AreAccounts (c : Accounts) : Type 0 where
  pub records : IsJoinMap key_cmp IsAccount c.records
  pub flushes : IsJoinMap set_key_cmp IsAscending c.flushes

-- the contents of both
abbrev pub join_accounts : Accounts → Accounts → Accounts
join_accounts c d = accounts (joined key_cmp join_account c.records d.records) (joined set_key_cmp union c.flushes d.flushes)
    (joined_at later_moment c.newest d.newest)

-- the flush moments of one hearing
abbrev pub flushes_of : Hearing → List (RecordSet × List ℕ)
flushes_of h = if h.flush then one_entry (set_key_of h.heard) (h.moment.nanos ∷ []) else []

-- the contents of one hearing
abbrev pub accounts_of : Hearing → Accounts
accounts_of h = accounts (one_entry (key_of h.heard) (account_of h)) (flushes_of h) (Some h.moment)

-- ---- what they stand for

-- the last hearing in an account, if there is one
abbrev pub latest_in : Option Account → Option Latest
latest_in None = None
latest_in (Some a) = Some a.latest

-- the seconds in an account, if there is one
abbrev pub history_in : Option Account → Option Seconds
history_in None = None
history_in (Some a) = Some a.history

-- the last hearing held for a record
abbrev pub last_held : Accounts → Key → Option Latest
last_held c key = latest_in (value_at key_cmp key c.records)

-- the goodbye in an account, if there is one
abbrev pub goodbye_in : Option Account → Option Moment
goodbye_in None = None
goodbye_in (Some a) = a.goodbye

-- the goodbye held for a record
abbrev pub goodbye_held : Accounts → Key → Option Moment
goodbye_held c key = goodbye_in (value_at key_cmp key c.records)

-- the ends held for a record in the second s
abbrev pub ends_held : Accounts → Key → ℕ → Option Ends
ends_held c key s = ends_at s (history_in (value_at key_cmp key c.records))

-- the moment is among those of a set that may be there
abbrev pub IsFlushIn : Option (List ℕ) → ℕ → Type 0
IsFlushIn None m = ⊥
IsFlushIn (Some ms) m = has ms m ≡ true

-- The contents stand for the hearings: each record has its last hearing, of each second in which it was heard the
-- moments and TTLs of the least and the greatest hearing, and its latest goodbye; each record set has the moments of its
-- flushes, and the newest moment is there. Nothing else is held.
pub record Chronicles (c : Accounts) (heard : List Hearing) : Type 0 where
  pub accounts : AreAccounts c
  pub lasts : (key : Key) → MatchOption (last_held c key) (IsUnheard heard key) (IsLast heard key)
  pub histories : (key : Key) (s : ℕ) → AreEndsIn (IsHeardAs heard key) s (ends_held c key s)
  pub goodbyes : (key : Key) → IsGoodbyeOf heard key (goodbye_held c key)
  pub flushes : (set : RecordSet) (m : ℕ) → IsFlushIn (value_at set_key_cmp set c.flushes) m ↔ IsFlushedAt heard set m
  pub newest : MatchOption c.newest (heard ≡ []) (IsNewest heard)

-- ---- rows

-- the rows of all records that are held
abbrev pub rows_of : Accounts → List (Latest × List Life)
rows_of c = rows_by c.flushes c.records
