use Rattle.std.proofs.{Common.{sym, subst, arith}, lemmas.List.{get_or_default}}
use Rattle.std.specs.{List.Sorted.{IsStrictlySortedBy}, Map.{keys_of}, Prelude.{slice_index_or}}
use Rattle.join_map.specs.Blocks.{entries_of}
use Rattle.join_map.proofs.PlaceLemmas.{IsRewritten-rows, place_there}
use Rattle.join_map.proofs.blocks.Blocks.join_at.Goals as goal

pub index_mut-entry-requires : goal.index_mut-entry-requires
index_mut-entry-requires g c =
    let there = place_there c.self.inside.entries.items c.self.inside.blocks.items c.args.self.now c.args.spot c.index.result.now
    c.places.result.now c.self.invariant c.self.view_is c.requires.spot c.index.ensures c.places.ensures in
    omega (arith, c.self.inside.entries.ok.0, there.2)

pub returns : goal.returns
returns g c =
    let es = c.self.inside.entries.items in
    let bs = c.self.inside.blocks.items in
    let e = c.index_mut-entry.result.now in
    let u = c.join_held.new.held in
    let there = place_there es bs c.args.self.now c.args.spot c.index.result.now c.places.result.now c.self.invariant
    c.self.view_is c.requires.spot c.index.ensures c.places.ensures in
    let place = slice_index_or c.places.result.now c.args.spot.offset 0 in
    let sorted = subst (λ bs. IsStrictlySortedBy g.K.Ord.cmp (keys_of (entries_of bs))) (sym c.self.view_is) c.requires.sorted in
    rw (← c.self.view_is)
    (record {
      entry = e;
      value = u;
      rewritten = IsRewritten-rows g.met.K.Ord.total g.met.K.Copied.exact es bs c.args.spot place e u
          c.index.result.now c.places.result.now c.self.invariant sorted there.0 c.index.ensures c.places.ensures there.1
          (get_or_default c.places.result.now c.args.spot.offset 0 place there.1) c.index_mut-entry.ensures.value;
      ok = c.join_held.ensures.ok;
      err = c.join_held.ensures.err;
      valid = c.join_held.ensures.valid;
      other = c.join_held.ensures.other;
    })
