-- The rows that a chronicle lends: of each record its last hearing and its lives.
use Rattle.std.specs.Prelude.{◌≡◌, ℕ, List, [], ◌∷◌, map, unwrap_or}
use Rattle.mdns_message.specs.{declared.key.Key.{Key}, RecordSet.{RecordSet}, Resource.{set_key_cmp}}
use Rattle.mdns_join.specs.declared.latest.Latest.{Latest}
use Rattle.join_map.specs.Entries.{value_at}
use Rattle.mdns_cache.specs.LentRecords.{last_lent}
use Rattle.mdns_lives.specs.declared.{account.Account.{Account}, life.Life.{Life}, lives.RecordLives.{RecordLives}}
use Rattle.mdns_lives.specs.{Seconds.{listed_ends}, LifeWalk.{walked, with_taken_back}}

-- the value of a lent row: the record's last hearing and its lives
abbrev pub row_lent : RecordLives → Latest × List Life
row_lent row = (last_lent row.last, row.lives.items)

-- the first row is lost
abbrev pub LosesFirst : List (Latest × List Life) → List (Latest × List Life) → Type 0
LosesFirst old new = (row : Latest × List Life) × (old ≡ row ∷ new)

-- the flush moments held for a record set
abbrev pub flushes_held : List (RecordSet × List ℕ) → RecordSet → List ℕ
flushes_held flushes set = unwrap_or (value_at set_key_cmp set flushes) []

-- the row of an entry
abbrev pub row_held : List (RecordSet × List ℕ) → Key × Account → Latest × List Life
row_held flushes e = (e.1.latest, map (with_taken_back e.1.goodbye) (walked (flushes_held flushes e.0.set) (listed_ends e.1.history)))

-- the rows of entries, by the flush moments of their record sets
abbrev pub rows_by : List (RecordSet × List ℕ) → List (Key × Account) → List (Latest × List Life)
rows_by flushes es = map (row_held flushes) es
