use Rattle.std.proofs.{lemmas.Grind.{common_steps}, Common.{arith, ◌++◌, ap, append-nil, sym, ◌∙◌, string_bytes}}
use Rattle.dns_name.specs.Name.{labels_of}
use Rattle.dns_name.proofs.FormLemmas.{IsForm-after, IsForm-last, labels_of-after}
use Rattle.people_text.proofs.ShownLemmas.{further, label_moved}
use Rattle.people_text.proofs.shown_names.push_further.Goals as goal

pub loop-label-preserved : goal.loop-label-preserved
loop-label-preserved c = grind (arith, common_steps, IsForm-after, label_moved, labels_of-after)

pub returns : goal.returns
returns c =
    let last = IsForm-last _ c.in_default.ensures.none c.loop-label.invariant.form in
    sym (append-nil (string_bytes c.loop-label.to))
    ∙ sym (ap (λ form. string_bytes c.loop-label.to ++ further (labels_of form)) last) ∙ c.loop-label.invariant.pushed
