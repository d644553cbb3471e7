use Rattle.std.proofs.Common.{◌≡◌, ◌++◌}
use Rattle.join_map.specs.Entries.{AllValid}
use Rattle.mdns_join.specs.Kept.{IsAscending}
use Rattle.mdns_lives.proofs.chronicle.moments_of.Given as goal

-- the entries so far, with those that are left, are all
abbrev pub invariant-loop-set : goal.invariant-loop-set
invariant-loop-set l = record {
  left : l.moments.items ++ l.set-iterator.rest.items ≡ l.fn.entries.items;
  valid : AllValid IsAscending l.moments.items;
}
