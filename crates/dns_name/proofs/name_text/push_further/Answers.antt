use Rattle.std.proofs.lemmas.{Grind.{common_steps}, Result.{err_from_is_err_and}}
use Rattle.std.proofs.Common.{arith, ◌∷◌, [], ap, refl, string_bytes, subst}
use Rattle.dns_name.specs.Name.{further_text, labels_of}
use Rattle.dns_name.proofs.FormLemmas.{IsForm-after, IsForm-last, labels_of-after}
use Rattle.dns_name.proofs.FrontLemmas.{Reaches, Reaches-more, Reaches-all, stops-at}
use Rattle.dns_name.proofs.name_text.push_further.Goals as goal

pub returns-in_err-push_ascii-clause-err : goal.returns-in_err-push_ascii-clause-err
returns-in_err-push_ascii-clause-err c =
    let p = err_from_is_err_and c.from_residual.result c.from_residual.ensures.1 in
    let split = ap further_text (labels_of-after _ _ _ c.in-Some.ensures.label) in
    rw p.1 (stops-at _ _ _ _ _ (46 ∷ []) _ c.loop-label.invariant.pushed split c.in_err-push_ascii.ensures.err)

pub returns-in_err-push_escaped-clause-err : goal.returns-in_err-push_escaped-clause-err
returns-in_err-push_escaped-clause-err c =
    let p = err_from_is_err_and c.from_residual-in_err-push_escaped.result c.from_residual-in_err-push_escaped.ensures.1 in
    let split = ap further_text (labels_of-after _ _ _ c.in-Some.ensures.label) in
    let dotted = Reaches-more _ _ _ _ _ (46 ∷ []) _ c.loop-label.invariant.pushed split c.in_ok-push_ascii.ensures.ok in
    rw p.1 (stops-at _ _ _ _ _ _ _ dotted refl c.in_err-push_escaped.ensures.err)

pub loop-label-preserved : goal.loop-label-preserved
loop-label-preserved c = grind (arith, common_steps, labels_of-after, Reaches-more, IsForm-after)

pub returns-clause-ok : goal.returns-clause-ok
returns-clause-ok c =
    let last = IsForm-last _ c.in_default.ensures.none c.loop-label.invariant.form in
    let taken = further_text (labels_of c.args.form.now) in
    Reaches-all _ _ _
    (subst (λ bytes. Reaches (string_bytes c.args.to.now) taken (string_bytes c.loop-label.to) (further_text (labels_of bytes))) last
    c.loop-label.invariant.pushed)
