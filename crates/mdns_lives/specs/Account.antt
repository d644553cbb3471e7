-- What is kept of one record: its last hearing, the ends of each second in which it was heard, and its latest goodbye.
use Rattle.std.specs.Prelude.{◌==◌, Option, None, Some, if◌then◌else◌}
use Rattle.mdns_capture.specs.declared.moment.Moment.{Moment}
use Rattle.mdns_message.specs.declared.{hearing.Hearing.{Hearing}, key.Key.{Key}}
use Rattle.join_map.specs.Entries.{joined_at}
use Rattle.mdns_join.specs.{declared.latest.Latest.{Latest}, Latest.{IsKeyed, later, latest_of}}
use Rattle.mdns_cache.specs.Contents.{later_moment}
use Rattle.mdns_lives.specs.{declared.account.Account.{Account}, History.{heard_of}, Seconds.{Seconds, IsSeconds, join_seconds, only}}

-- an account by its parts
abbrev pub account : Latest → Seconds → Option Moment → Account
account latest history goodbye = record { latest = latest; history = history; goodbye = goodbye }

-- the later last hearing, the seconds of both, and the later goodbye
abbrev pub join_account : Account → Account → Account
join_account a b =
    account (later a.latest b.latest) (join_seconds a.history b.history) (joined_at later_moment a.goodbye b.goodbye)

-- the seconds are in order, each once
abbrev pub IsAccount : Account → Type 0
IsAccount a = IsSeconds a.history

-- the moment of a goodbye (RFC 6762, section 10.1)
abbrev pub goodbye_of : Hearing → Option Moment
goodbye_of h = if h.ttl == 0 then Some h.moment else None

-- the account of one hearing
abbrev pub account_of : Hearing → Account
account_of h = account (latest_of h) (only (heard_of h)) (goodbye_of h)

-- the key is that of the record
abbrev pub IsOwnAccount : Key → Account → Type 0
IsOwnAccount key a = IsKeyed key a.latest
