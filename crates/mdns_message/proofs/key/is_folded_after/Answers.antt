use Rattle.std.proofs.Common.{Some, None, sym, ap, ◌++◌, ◌∙◌}
use Rattle.std.proofs.lemmas.{Bool.{false≢true}, Bool.Decides.{Decides-eqb}, List.{append_cancel_left}, Slice.Eq.{strip_prefix_is}}
use Rattle.mdns_message.proofs.key.is_folded_after.Goals as goal

pub returns-in-Some : goal.returns-in-Some
returns-in-Some c =
    let head = c.args.head.now in
    let is = strip_prefix_is Decides-eqb c.args.held.now head (Some c.in-Some.rest) c.in-Some.ensures.cases in (
      λ t. is ∙ ap (λ xs. head ++ xs) (c.is_folded.ensures.0 t),
      λ e. c.is_folded.ensures.1 (append_cancel_left head _ _ (sym is ∙ e)),
    )

pub returns-in-None : goal.returns-in-None
returns-in-None c =
    let no = strip_prefix_is Decides-eqb c.args.held.now c.args.head.now None c.in-None.ensures.cases in
    (λ t. absurd (false≢true t), λ e. absurd (no _ e))
