use Rattle.std.proofs.Common.{ℕ, ◌≡◌, ◌+◌, ◌-◌, ◌/◌, drop, take, sym, ◌∙◌, subst, arith}
use Rattle.std.proofs.lemmas.List.{drop_all}
use Rattle.join_map.specs.Blocks.{AllAbove, AllBelow, entries_of}
use Rattle.join_map.proofs.{BlockLemmas.{filled_at}, KeyLemmas.{above_from_block, below_upto_block, above_later, middle_below, Less-from}}
use Rattle.join_map.proofs.{KeyLemmas.{not_Less-from}, PlaceLemmas.{filled-rows, length-rows}}
use Rattle.join_map.proofs.blocks.Blocks.block_of.Goals as goal

pub loop-low-init : goal.loop-low-init
loop-low-init g c = grind (arith, length-rows, drop_all)

pub entry-requires : goal.entry-requires
entry-requires g c = grind (arith, middle_below, filled_at, filled-rows)

pub loop-low-preserved-then-is_lt : goal.loop-low-preserved-then-is_lt
loop-low-preserved-then-is_lt g c =
    let i = c.loop-low.invariant in
    let m = middle_below c.loop-low.low c.loop-low.high c.loop-low-test.true in
    let n = c.loop-low.low + (c.loop-low.high - c.loop-low.low) / 2 in (
      m.0,
      omega (arith, m.1, i.1),
      i.2,
      above_from_block g.met.K.Ord.total g.met.K.Copied.exact _ c.args.self.now n _ c.requires.sorted (omega (arith, m.1, i.1))
          c.entry.ensures (sym c.cmp.ensures ∙ Less-from _ _ c.is_lt.ensures c.if-is_lt.true),
    )

pub loop-low-preserved : goal.loop-low-preserved
loop-low-preserved g c =
    let i = c.loop-low.invariant in
    let m = middle_below c.loop-low.low c.loop-low.high c.loop-low-test.true in
    let n = c.loop-low.low + (c.loop-low.high - c.loop-low.low) / 2 in
    let same : n ≡ n + 1 - 1 = omega arith in (
      omega (arith, m.1),
      i.1,
      subst (λ m. AllBelow g.K.Ord.cmp c.args.key.now (entries_of (take m c.args.self.now))) same
          (below_upto_block g.met.K.Ord.total g.met.K.Copied.exact _ c.args.self.now n _ c.requires.sorted (omega (arith, m.1, i.1))
          c.entry.ensures (λ less. not_Less-from _ _ c.is_lt.ensures c.if-is_lt.false (c.cmp.ensures ∙ less))),
      i.3,
    )

pub returns-clause-above : goal.returns-clause-above
returns-clause-above g c =
    let i = c.loop-low.invariant in
    let met : c.loop-low.high ≡ c.loop-low.low = omega (arith, i.0, c.loop-low-test.false) in
    let P : ℕ → Type 0 = λ m. AllAbove g.K.Ord.cmp c.args.key.now (entries_of (drop m c.args.self.now)) in
    let Q : ℕ → Type 0 = λ m. P (m + 1) in
    subst Q (sym c.saturating_sub.ensures) (above_later g.met.K.Ord.total g.met.K.Copied.exact c.args.key.now
    c.args.self.now c.loop-low.low (subst P met i.3))
