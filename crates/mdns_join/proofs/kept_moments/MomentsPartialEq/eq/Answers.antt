use Rattle.std.proofs.Common.{nat_eq, ap₂, ◌∙◌}
use Rattle.std.specs.Cmp.Lexicographic.{pointwise}
use Rattle.mdns_join.proofs.MomentLemmas.{pointwise-nanos}
use Rattle.mdns_join.proofs.kept_moments.MomentsPartialEq.eq.Goals as goal

pub returns : goal.returns
returns c = c.eq.ensures ∙ pointwise-nanos c.all.result.now c.all-2.result.now
    ∙ ap₂ (pointwise nat_eq) c.all.ensures.all c.all-2.ensures.all
