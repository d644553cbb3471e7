use Rattle.std.proofs.Common.{rules, arith}
use Rattle.dns_name.proofs.FormLemmas.{IsForm-before, IsForm-after, IsForm-last, IsForm-root}
use Rattle.dns_name.proofs.name.is_form.Goals as goal

pub loop-after-preserved : goal.loop-after-preserved
loop-after-preserved c = grind (arith, IsForm-before, IsForm-after)

pub returns : goal.returns
returns c = search (rules, IsForm-root, IsForm-last)
