use Rattle.std.proofs.Common.{◌∙◌, ℕ, List, subst}
use Rattle.mdns_listeners.specs.Listeners.{Gathered}
use Rattle.mdns_listeners.proofs.warned.WarnedQuestion.collector.Goals as goal

pub returns-clause-heard : goal.returns-clause-heard
returns-clause-heard g c = λ now packets outcomes both. (
  c.in_ok-collector.ensures.heard now.hearer packets outcomes both.0,
  subst (λ (of : List ℕ). Gathered of now.messages packets outcomes) (c.in_ok-new.ensures.listeners ∙ c.by_file.ensures.by_file) both.1,
)
