use Rattle.std.proofs.Common.{◌≡◌, drop}
use Rattle.mdns_page.specs.Ticks.{first_step}
use Rattle.mdns_page.proofs.ticks.first_step.Given as goal

abbrev pub invariant-loop-step : goal.invariant-loop-step
invariant-loop-step l = first_step l.span (drop l.step-index l.steps) ≡ first_step l.span l.steps
