-- Live records, and since when each has been live.
use Rattle.std.specs.{Prelude.{◌≡◌, ℕ, nat_lt, List, map, Contains}, List.{filter, flat_map}}
use Rattle.mdns_message.specs.declared.{hearing.Hearing.{Hearing}, key.Key.{Key}}
use Rattle.mdns_join.specs.declared.latest.Latest.{Latest}
use Rattle.mdns_cache.specs.{Live.{AreLiveRecords, key_of_last}, LentRecords.{last_lent}}
use Rattle.mdns_lives.specs.{declared.life.Life.{Life}, declared.live_since.LiveSince.{LiveSince}, Lives.{AreLives, IsDuring}}

-- the record has been live since `from`: there the life begins in which the moment `now` is
pub record IsLiveSince (heard : List Hearing) (now : ℕ) (key : Key) (from : ℕ) : Type 0 where
  pub lives : List Life
  pub are : AreLives heard key lives
  pub life : Life
  pub among : Contains lives life
  pub during : IsDuring life now
  pub begins : life.from.nanos ≡ from

-- a live record with its end, of a row that says since when it has been live
abbrev pub live_row : (Latest × ℕ) × ℕ → Latest × ℕ
live_row row = row.0

-- the rows are the last hearings of the live records with their ends, each record once, in key order, and each since when it
-- has been live
pub record AreLiveSince (heard : List Hearing) (now : ℕ) (rows : List ((Latest × ℕ) × ℕ)) : Type 0 where
  pub records : AreLiveRecords heard now (map live_row rows)
  pub since : (row : (Latest × ℕ) × ℕ) → Contains rows row → IsLiveSince heard now (key_of_last row.0.0) row.1

-- the value of a lent row
abbrev pub live_since_lent : LiveSince → (Latest × ℕ) × ℕ
live_since_lent row = ((last_lent row.last, row.end), row.since.nanos)

-- the row of a record's life
abbrev pub since_row : Latest → Life → (Latest × ℕ) × ℕ
since_row last life = ((last, life.until), life.from.nanos)

-- the rows of the lives of a record that go on after `end`
abbrev pub since_rows : ℕ → Latest → List Life → List ((Latest × ℕ) × ℕ)
since_rows end last lives = map (since_row last) (filter (λ (life : Life). nat_lt end life.until) lives)

-- those of the lives of all records
abbrev pub all_since_rows : ℕ → List (Latest × List Life) → List ((Latest × ℕ) × ℕ)
all_since_rows end rows = flat_map (λ (row : Latest × List Life). since_rows end row.0 row.1) rows
