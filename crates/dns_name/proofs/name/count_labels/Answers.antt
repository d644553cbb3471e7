use Rattle.std.proofs.Common.{arith}
use Rattle.dns_name.proofs.FormLemmas.{IsForm-after, IsForm-last, labels_of-after, length-after}
use Rattle.dns_name.proofs.name.count_labels.Goals as goal

pub loop-after-preserved : goal.loop-after-preserved
loop-after-preserved c = grind (arith, length-after, labels_of-after, IsForm-after)

pub returns : goal.returns
returns c = grind (arith, IsForm-last _ c.in_default.ensures.none c.loop-after.invariant.form)
