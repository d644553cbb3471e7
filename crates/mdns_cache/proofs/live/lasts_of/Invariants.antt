use Rattle.std.proofs.Common.{◌≡◌, ◌++◌, map}
use Rattle.mdns_cache.specs.LentRecords.{last_lent}
use Rattle.mdns_cache.proofs.LiveRowLemmas.{last_of}
use Rattle.mdns_cache.proofs.live.lasts_of.Given as goal

-- the rows so far, with the last hearings of the records that are left, are all
abbrev pub invariant-loop-record : goal.invariant-loop-record
invariant-loop-record l = map last_lent l.rows.items ++ map last_of l.record-iterator ≡ map last_of l.fn.records
