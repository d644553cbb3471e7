use Rattle.std.proofs.{Common.{ℕ, arith, rules, subst}, lemmas.List.Elements.{All-more}}
use Rattle.mdns_page.specs.ServiceLives.{IsWithin}
use Rattle.mdns_page.proofs.service_lives.span_of.Goals as goal

pub loop-life-preserved : goal.loop-life-preserved
loop-life-preserved c =
    let span : ℕ × ℕ = (c.min-from.result, c.max-until.result) in
    let so_far = c.loop-life.invariant in
    All-more (IsWithin span) c.args.lives.now c.loop-life.life-index c.life-item.result (search rules)
    (λ k d within. (let was = so_far k d within in (omega (arith, was.0, c.min-from.ensures), omega (arith, was.1, c.max-until.ensures))))
    (subst (IsWithin span) c.life-item.is (omega (arith, c.min-from.ensures, c.nanos.ensures), omega (arith, c.max-until.ensures)))
