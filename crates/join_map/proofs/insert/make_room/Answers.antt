use Rattle.std.proofs.Common.{◌+◌, ◌-◌, refl, arith}
use Rattle.join_map.proofs.BlockLemmas.{AreParts-from, moved_first, moved_second}
use Rattle.join_map.proofs.insert.make_room.Goals as goal

pub returns-then-spot-at-clause-ok : goal.returns-then-spot-at-clause-ok
returns-then-spot-at-clause-ok c =
    let h = (AreParts-from c.args.blocks.now.items c.reserve.new.self.items c.insert.new.self.items c.args.spot.block
    c.cut_of-at.result c.index.result.now c.places.result.now c.index_mut-block.result.now
    c.index_mut-block.result.now
    c.split.new.self c.in_ok-rest.rest c.requires.block c.index.ensures c.places.ensures c.if-places-lt-LIMIT.false
    c.cut_of-at.ensures.0 c.cut_of-at.ensures.1 c.in_ok-reserve.ensures.items c.index_mut-block.ensures.value refl
    c.in_ok-rest.ensures.first c.in_ok-rest.ensures.last c.in_ok-insert.ensures.items) in
    moved_first c.args.blocks.now.items c.insert.new.self.items c.args.spot c.cut_of-at.result c.split.new.self
    c.in_ok-rest.rest c.requires.block (omega (arith, h.long)) c.if-spot-at.true
    h.first h.second h.is

pub returns-clause-ok : goal.returns-clause-ok
returns-clause-ok c =
    let h = (AreParts-from c.args.blocks.now.items c.reserve.new.self.items c.insert.new.self.items c.args.spot.block
    c.cut_of-at.result c.index.result.now c.places.result.now c.index_mut-block.result.now
    c.index_mut-block.result.now
    c.split.new.self c.in_ok-rest.rest c.requires.block c.index.ensures c.places.ensures c.if-places-lt-LIMIT.false
    c.cut_of-at.ensures.0 c.cut_of-at.ensures.1 c.in_ok-reserve.ensures.items c.index_mut-block.ensures.value refl
    c.in_ok-rest.ensures.first c.in_ok-rest.ensures.last c.in_ok-insert.ensures.items) in
    moved_second c.args.blocks.now.items c.insert.new.self.items c.args.spot
    (record { block = c.args.spot.block + 1; offset = c.args.spot.offset - c.cut_of-at.result })
    c.cut_of-at.result c.split.new.self c.in_ok-rest.rest
    c.requires.block (omega (arith, c.if-spot-at.false)) c.requires.gap.1 refl refl h.first h.second h.is
