-- A hearing at each of some moments, of which its own is the latest.
use Rattle.std.specs.Prelude.{◌≤◌, ℕ, List, [], map, Some, Contains, if◌then◌else◌}
use Rattle.mdns_capture.specs.declared.moment.Moment.{Moment}
use Rattle.mdns_message.specs.{declared.hearing.Hearing.{Hearing}, RecordSet.{RecordSet}, Resource.{key_of, set_key_of}}
use Rattle.join_map.specs.Entries.{one_entry}
use Rattle.mdns_join.specs.{Latest.{latest_of}, Kept.{ascending}, Nanos.{nanos_of}}
use Rattle.mdns_lives.specs.{declared.account.Account.{Account}, declared.life.RecordHearing.{RecordHearing}, Account.{account, goodbye_of}}
use Rattle.mdns_lives.specs.{Chronicle.{Accounts, accounts}, Seconds.{seconds_of}}

-- the latest of some moments
pub record IsLatestIn (moments : List Moment) (latest : Moment) : Type 0 where
  pub among : Contains moments latest
  pub greatest : (t : Moment) → Contains moments t → t.nanos ≤ latest.nanos

-- a moment with this TTL
abbrev pub heard_with : ℕ → Moment → RecordHearing
heard_with ttl t = record { moment = t; ttl = ttl }

-- each of some moments with this TTL
abbrev pub heard_each : ℕ → List Moment → List RecordHearing
heard_each ttl ts = map (heard_with ttl) ts

-- the account of a hearing at each of these moments
abbrev pub account_each : Hearing → List Moment → Account
account_each h ts = account (latest_of h) (seconds_of (heard_each h.ttl ts)) (goodbye_of h)

-- its flush moments
abbrev pub flushes_each : Hearing → List Moment → List (RecordSet × List ℕ)
flushes_each h ts = if h.flush then one_entry (set_key_of h.heard) (ascending (nanos_of ts)) else []

-- its contents
abbrev pub accounts_each : Hearing → List Moment → Accounts
accounts_each h ts = accounts (one_entry (key_of h.heard) (account_each h ts)) (flushes_each h ts) (Some h.moment)
