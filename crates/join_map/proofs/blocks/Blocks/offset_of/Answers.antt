use Rattle.std.proofs.Common.{◌∙◌, sym, arith}
use Rattle.join_map.proofs.KeyLemmas.{above_from, below_upto, middle_below}
use Rattle.join_map.proofs.blocks.Blocks.offset_of.Goals as goal

pub loop-low-preserved-in-Less : goal.loop-low-preserved-in-Less
loop-low-preserved-in-Less g c =
    let i = c.loop-low.invariant in
    let m = middle_below c.loop-low.low c.loop-low.high c.loop-low-test.true in (
      m.0,
      omega (arith, m.1, i.1),
      i.2,
      above_from g.met.K.Ord.total g.met.K.Copied.exact _ _ _ _ c.requires.sorted c.entry.ensures (sym c.cmp.ensures ∙ c.in-Less.is),
    )

pub returns-in-Equal-clause-found : goal.returns-in-Equal-clause-found
returns-in-Equal-clause-found g c =
    let m = middle_below c.loop-low.low c.loop-low.high c.loop-low-test.true in
    record {
      within = omega (arith, m.1, c.loop-low.invariant.1);
      entry = c.entry.result.now;
      is = c.entry.ensures;
      same = sym c.cmp.ensures ∙ c.in-Equal.is;
    }

pub loop-low-preserved : goal.loop-low-preserved
loop-low-preserved g c =
    let i = c.loop-low.invariant in
    let m = middle_below c.loop-low.low c.loop-low.high c.loop-low-test.true in (
      omega (arith, m.1),
      i.1,
      below_upto g.met.K.Ord.total g.met.K.Copied.exact _ _ _ _ c.requires.sorted c.entry.ensures (sym c.cmp.ensures ∙ c.in-Greater.is),
      i.3,
    )
