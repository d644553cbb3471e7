use Rattle.std.proofs.Common.{arith, vec_capacity, vec_len}
use Rattle.mdns_lives.specs.Each.{heard_each}
use Rattle.mdns_lives.proofs.{EachLemmas.{room_appended}}
use Rattle.mdns_lives.proofs.history.push_own.Goals as goal

pub returns-in-Some-Ok-join_latest-clause-bound : goal.returns-in-Some-Ok-join_latest-clause-bound
returns-in-Some-Ok-join_latest-clause-bound c = λ bound.
    room_appended c.make_room.new.items.items c.push_each.new.items.items
    (heard_each c.args.hearing.now.ttl c.args.moments.now) (vec_len c.push_each.new.items) (vec_capacity c.make_room.new.items)
    (vec_capacity c.push_each.new.items) c.push_each.ensures.items c.push_each.ensures.capacity
    (grind (arith, c.make_room.ensures.bound bound))
