use Rattle.std.proofs.Common.{◌≡◌, ◌++◌, map}
use Rattle.mdns_cache.specs.LentRecords.{live_record_lent}
use Rattle.mdns_cache.proofs.live.records_of.Given as goal

-- the records so far, with those that are left, are all
abbrev pub invariant-loop-record : goal.invariant-loop-record
invariant-loop-record l = map live_record_lent l.records.items ++ l.record-iterator ≡ l.fn.walk
