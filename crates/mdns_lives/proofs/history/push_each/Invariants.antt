use Rattle.std.proofs.Common.{◌≡◌, ◌+◌, ◌++◌, take, vec_capacity, vec_len}
use Rattle.mdns_lives.specs.Each.{heard_each}
use Rattle.mdns_lives.proofs.history.push_each.Given as goal

-- the moments so far were added, in the same room
abbrev pub invariant-loop-moment : goal.invariant-loop-moment
invariant-loop-moment l = record {
  items : l.items.items ≡ l.initial.items.items ++ heard_each l.ttl (take l.moment-index l.moments);
  len : vec_len l.items ≡ vec_len l.initial.items + l.moment-index;
  capacity : vec_capacity l.items ≡ vec_capacity l.initial.items;
}
