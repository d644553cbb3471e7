-- The contents of a chronicle after a hearing that was refused.
use Rattle.std.proofs.Common.{arith, ◌≡◌, ℕ, List, [], Option}
use Rattle.mdns_capture.specs.declared.moment.Moment.{Moment}
use Rattle.mdns_message.specs.{declared.key.Key.{Key}, RecordSet.{RecordSet}, Resource.{key_cmp, set_key_cmp}}
use Rattle.mdns_message.specs.laws.Resource.{key_cmp-total, key_cmp-exact, set_key_cmp-total, set_key_cmp-exact}
use Rattle.join_map.specs.{Entries.{IsJoinMap, joined}, Join.{JoinLaws, IsPartOfJoin}, laws.Entries.{joined-laws}}
use Rattle.join_map.specs.laws.Join.{IsAtMost-left, IsPartOfJoin-join, IsPartOfJoin-old}
use Rattle.mdns_join.specs.Kept.{union, IsAscending}
use Rattle.mdns_cache.proofs.ContentsLemmas.{newer-same, newer-comm, newer-assoc}
use Rattle.mdns_lives.specs.{declared.account.Account.{Account}, Account.{join_account, IsAccount}, laws.Account.{account-laws}}
use Rattle.mdns_lives.specs.laws.Flushes.{union-laws}
use Rattle.mdns_lives.specs.Chronicle.{Accounts, accounts, accounts_gathered, AreAccounts, AreGathered, join_accounts}
use Rattle.mdns_lives.proofs.{AccountLemmas.{newer-within}, ChronicleLemmas.{chronicles_none}}

pub records-laws : JoinLaws (IsJoinMap key_cmp IsAccount) (joined key_cmp join_account)
records-laws = joined-laws key_cmp-total key_cmp-exact account-laws

pub flushes-laws : JoinLaws (IsJoinMap set_key_cmp IsAscending) (joined set_key_cmp union)
flushes-laws = joined-laws set_key_cmp-total set_key_cmp-exact union-laws

pub accounts-laws : JoinLaws AreAccounts join_accounts
accounts-laws = grind (arith, records-laws, flushes-laws, newer-same, newer-comm, newer-assoc)

-- ---- entries in any order

pub gathered_accounts : (rs : List (Key × Account)) (fs : List (RecordSet × List ℕ)) (newest : Option Moment)
    → AreGathered rs fs → AreAccounts (accounts_gathered rs fs newest)
gathered_accounts rs fs newest u = record { records = u.records; flushes = u.flushes }

pub AreGathered_none : (rs : List (Key × Account)) (fs : List (RecordSet × List ℕ)) → rs ≡ [] → fs ≡ [] → AreGathered rs fs
AreGathered_none rs fs p q = grind (arith, chronicles_none)

-- ---- what lies between the old contents and the join

-- nothing was joined
pub part_none : (old new other : Accounts) → AreAccounts old → AreAccounts other → new ≡ old → IsPartOfJoin join_accounts old other new
part_none old new other u v same = grind (arith, IsPartOfJoin-old, accounts-laws)

module _ (old other : Accounts) (u : AreAccounts old) (v : AreAccounts other) where
  -- only the records were joined, or some of them
  pub part_their_records : (rs : List (Key × Account)) → IsPartOfJoin (joined key_cmp join_account) old.records other.records rs
      → IsPartOfJoin join_accounts old other (accounts rs old.flushes old.newest)
  part_their_records rs part = grind (arith, flushes-laws, newer-same, IsAtMost-left, newer-within)

  -- the records were joined, and some of the flushes
  pub part_their_flushes : (fs : List (RecordSet × List ℕ)) → IsPartOfJoin (joined set_key_cmp union) old.flushes other.flushes fs
      → IsPartOfJoin join_accounts old other (accounts (joined key_cmp join_account old.records other.records) fs old.newest)
  part_their_flushes fs part = grind (arith, IsAtMost-left, records-laws, newer-same, newer-within)

-- only the records were joined
pub part_records : (old new other : Accounts) → AreAccounts old → AreAccounts other
    → new ≡ accounts (joined key_cmp join_account old.records other.records) old.flushes old.newest
    → IsPartOfJoin join_accounts old other new
part_records old new other u v is = grind (arith, part_their_records, IsPartOfJoin-join, records-laws)

-- WHAT FUNCTIONS ARE PROVED BY

pub ruleset for_join_with = (accounts-laws, part_their_flushes, part_their_records)
