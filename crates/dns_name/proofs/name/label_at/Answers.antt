use Rattle.std.proofs.Common.{arith, sym, ◌∙◌}
use Rattle.dns_name.proofs.FormLemmas.{IsForm-after, IsForm-last, labels_of-after, first_label, later_label}
use Rattle.dns_name.proofs.name.label_at.Goals as goal

pub returns-then-left-eq0 : goal.returns-then-left-eq0
returns-then-left-eq0 c =
    sym c.loop-label.invariant.same ∙ first_label _ _ _ _ (labels_of-after _ _ _ c.in-Some.ensures.label) c.if-left-eq0.true

pub loop-label-preserved : goal.loop-label-preserved
loop-label-preserved c = grind (arith, labels_of-after, IsForm-after, later_label)

pub returns : goal.returns
returns c = grind (arith, IsForm-last _ c.in_default.ensures.none c.loop-label.invariant.form)
