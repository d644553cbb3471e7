use Rattle.std.proofs.lemmas.{Grind.{common_steps}, Result.{err_from_is_err_and, on_ok_weaker, on_err_weaker}}
use Rattle.std.proofs.Common.{arith, ◌≡◌, ◌∷◌, [], ◌++◌, ℕ, List, ap, string_bytes, sym, subst}
use Rattle.dns_name.specs.Name.{HasFront, labels_text, name_text}
use Rattle.dns_name.proofs.FormLemmas.{IsForm-after, IsForm-last, labels_of-after}
use Rattle.dns_name.proofs.FrontLemmas.{Reaches-start, Reaches-more, Reaches-last, stops-at, stops-last}
use Rattle.dns_name.proofs.name_text.push_form.Goals as goal

pub returns-in_err-push_escaped-in-Some-clause-err : goal.returns-in_err-push_escaped-in-Some-clause-err
returns-in_err-push_escaped-in-Some-clause-err c =
    let p = err_from_is_err_and c.from_residual.result c.from_residual.ensures.1 in
    let split = ap labels_text (labels_of-after _ _ _ c.in-Some.ensures.label) in
    rw p.1 (stops-at _ _ _ _ _ _ _ (Reaches-start (string_bytes c.args.to.now) (name_text c.args.form.now)) split
    c.in_err-push_escaped-in-Some.ensures.err)

pub push_further-requires : goal.push_further-requires
push_further-requires c = IsForm-after _ _ _ c.in-Some.ensures.label c.requires

pub returns-in_ok-push_escaped-in-Some-clause-ok : goal.returns-in_ok-push_escaped-in-Some-clause-ok
returns-in_ok-push_escaped-in-Some-clause-ok c =
    grind (arith, common_steps, labels_of-after, Reaches-more, Reaches-start, string_bytes, on_ok_weaker, Reaches-last)

pub returns-in_ok-push_escaped-in-Some-clause-err : goal.returns-in_ok-push_escaped-in-Some-clause-err
returns-in_ok-push_escaped-in-Some-clause-err c =
    let split = ap labels_text (labels_of-after _ _ _ c.in-Some.ensures.label) in
    let first = Reaches-more _ _ _ _ _ _ _ (Reaches-start (string_bytes c.args.to.now) (name_text c.args.form.now)) split
    c.in_ok-push_escaped-in-Some.ensures.ok in
    on_err_weaker c.push_further.result (stops-last _ _ _ _ _ first) c.push_further.ensures.err

-- the root's text
root_text : (form : List ℕ) → form ≡ 0 ∷ [] → 46 ∷ [] ≡ name_text form
root_text form root = ap name_text (sym root)

pub returns-in-None-clause-ok : goal.returns-in-None-clause-ok
returns-in-None-clause-ok c =
    let text = root_text _ (IsForm-last _ c.in-None.ensures.none c.requires) in
    on_ok_weaker c.push_ascii.result (subst (λ piece. string_bytes c.push_ascii.new.to ≡ string_bytes c.args.to.now ++ piece) text) c.push_ascii.ensures.ok

pub returns-in-None-clause-err : goal.returns-in-None-clause-err
returns-in-None-clause-err c =
    let text = root_text _ (IsForm-last _ c.in-None.ensures.none c.requires) in
    on_err_weaker c.push_ascii.result (subst (λ piece. HasFront (string_bytes c.args.to.now) piece (string_bytes c.push_ascii.new.to)) text) c.push_ascii.ensures.err
