use Rattle.std.proofs.{lemmas.Grind.{common_steps}, Common.{arith, ◌++◌, ap, append-nil, sym, ◌∙◌, string_bytes}}
use Rattle.dns_name.specs.Name.{labels_of}
use Rattle.dns_name.proofs.FormLemmas.{IsForm-after, IsForm-last, labels_of-after}
use Rattle.mdns_browse.specs.NameSaid.{before_type, from_type}
use Rattle.mdns_browse.proofs.SaidLemmas.{before-written, from-other, further_said}
use Rattle.mdns_browse.proofs.name_said.push_before_type.Goals as goal

pub loop-label-preserved : goal.loop-label-preserved
loop-label-preserved c = grind (arith, common_steps, labels_of-after, IsForm-after, before-written, from-other)

pub returns-clause-text : goal.returns-clause-text
returns-clause-text c =
    let last = IsForm-last _ c.in_default.ensures.none c.loop-label.invariant.form in
    sym (append-nil (string_bytes c.loop-label.to))
    ∙ sym (ap (λ form. string_bytes c.loop-label.to ++ further_said (before_type (labels_of form))) last)
    ∙ c.loop-label.invariant.pushed

pub returns-clause-rest : goal.returns-clause-rest
returns-clause-rest c =
    let last = IsForm-last _ c.in_default.ensures.none c.loop-label.invariant.form in
    ap labels_of last ∙ sym (ap (λ form. from_type (labels_of form)) last) ∙ c.loop-label.invariant.left
