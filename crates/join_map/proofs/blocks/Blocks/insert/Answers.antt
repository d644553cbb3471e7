use Rattle.std.proofs.{lemmas.Grind.{common_steps}, Common.{arith, sym, ◌∙◌, subst}}
use Rattle.join_map.specs.Blocks.{IsGap}
use Rattle.join_map.proofs.PlaceLemmas.{gap-rows, inserted-rows, kept-rows, untouched}
use Rattle.join_map.proofs.blocks.Blocks.insert.Goals as goal

pub returns-in-Ok-clause-ok : goal.returns-in-Ok-clause-ok
returns-in-Ok-clause-ok g c =
    let es = c.self.inside.entries.items in
    let bs = c.self.inside.blocks.items in
    let gap = gap-rows es bs c.args.spot c.self.invariant (subst (λ bs. IsGap bs c.args.spot) (sym c.self.view_is) c.requires) in
    let last = c.len-place.ensures ∙ c.self.inside.entries.ok.0 in
    rw (← c.self.view_is)
    (rw c.in_ok-push.ensures.items
    (inserted-rows es bs c.insert_at.new.blocks.items c.args.spot (
      c.args.key,
      c.args.value,
    ) c.len-place.result c.self.invariant gap last c.in-Ok.ensures.ok))

pub returns-in-Err-clause-err : goal.returns-in-Err-clause-err
returns-in-Err-clause-err g c = grind (arith, common_steps, kept-rows, untouched)
