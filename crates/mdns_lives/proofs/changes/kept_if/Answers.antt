use Rattle.std.proofs.{Common.{rules, arith}, lemmas.Fn.{filter_same}}
use Rattle.mdns_lives.specs.{Window.{meets}}
use Rattle.mdns_lives.proofs.changes.kept_if.Goals as goal

pub returns-then-kept : goal.returns-then-kept
returns-then-kept c = grind (arith, filter_same _ (meets c.args.window) _ (λ x b f' k. search rules) _ _ c.retain.ensures.filtered)
