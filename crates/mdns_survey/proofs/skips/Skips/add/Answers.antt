use Rattle.std.proofs.Common.{arith, subst}
use Rattle.mdns_survey.specs.Skips.{IsSkipOf}
use Rattle.mdns_survey.proofs.SkipLemmas.{counts-no-skip, counts-skip}
use Rattle.mdns_survey.proofs.skips.Skips.add.Goals as goal

pub returns-in_default : goal.returns-in_default
returns-in_default c = λ packet is. counts-no-skip packet c.args.self.now (subst (IsSkipOf packet) c.in_default.is is)

pub returns : goal.returns
returns c = grind (arith, counts-skip)
