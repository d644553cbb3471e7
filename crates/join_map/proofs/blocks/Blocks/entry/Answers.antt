use Rattle.std.proofs.{Common.{arith, rules}, lemmas.List.{get_or_default, get_or_read}}
use Rattle.join_map.proofs.PlaceLemmas.{IsEntry-rows, place_there, spot-rows}
use Rattle.join_map.proofs.blocks.Blocks.entry.Goals as goal

pub index-requires-2 : goal.index-requires-2
index-requires-2 g c =
    let there = place_there c.self.inside.entries.items c.self.inside.blocks.items c.args.self.now c.args.spot c.index.result.now
    c.places.result.now c.self.invariant c.self.view_is c.requires c.index.ensures c.places.ensures in
    omega (arith, c.self.inside.entries.ok.0, there.2)

pub returns : goal.returns
returns g c = search (rules, spot-rows, get_or_read, IsEntry-rows, get_or_default)
