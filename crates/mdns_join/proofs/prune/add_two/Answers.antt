use Rattle.std.proofs.Common.{List, [], ◌∷◌, ap, ◌∙◌, sym}
use Rattle.mdns_capture.specs.declared.moment.Moment.{Moment}
use Rattle.mdns_join.specs.{Kept.{kept_union}, Nanos.{nanos_of}}
use Rattle.mdns_join.proofs.LateLemmas.{keeps_more, waits_more}
use Rattle.mdns_join.proofs.prune.add_two.Goals as goal

pub returns-clause-ok : goal.returns-clause-ok
returns-clause-ok c =
    let items = nanos_of c.args.items.now in
    let one = c.args.one.nanos ∷ [] in
    let two = c.args.two.nanos ∷ [] in
    c.in_ok-add-2.ensures.ok
    ∙ ap (λ ks. kept_union ks one) (c.in_ok-add.ensures.ok
    ∙ ap (λ (xs : List Moment). kept_union (nanos_of xs) two) (c.in_ok-both.ensures ∙ c.as_slice.ensures))
    ∙ keeps_more items one two ∙ sym (waits_more items one two)
