use Rattle.std.proofs.Common.{arith, vec_capacity, vec_len}
use Rattle.mdns_lives.proofs.{RoomLemmas.{room_pushed}, SecondsLemmas.{seconds_of-push}}
use Rattle.mdns_lives.proofs.history.push_one.Goals as goal

pub returns-clause-ok : goal.returns-clause-ok
returns-clause-ok c = grind (arith, seconds_of-push)

pub returns-clause-bound : goal.returns-clause-bound
returns-clause-bound c = λ bound.
    room_pushed c.make_room.new.items.items c.push_reserved.new.self.items c.of.result (vec_len c.push_reserved.new.self)
    (vec_capacity c.make_room.new.items) (vec_capacity c.push_reserved.new.self) c.push_reserved.ensures.items
    c.push_reserved.ensures.capacity (grind (arith, c.make_room.ensures.bound bound))
