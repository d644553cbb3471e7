use Rattle.std.proofs.Common.{◌++◌, ◌∙◌, ap, flat_map, map-id, string_bytes, sym}
use Rattle.std.proofs.lemmas.{Iterator.{YieldsList-from_chars}, Iterator.Consumers.{YieldsList-end}}
use Rattle.people_text.specs.Shown.{scalar_text}
use Rattle.people_text.proofs.shown.push_text.Goals as goal

pub returns : goal.returns
returns c =
    let end = YieldsList-end (YieldsList-from_chars c.args.text.now c.utf8.text cc) c.loop-scalar.yielded _ c.loop-scalar.yielded_by _ _
    c.in-None.is c.next.ensures.steps in
    c.loop-scalar.invariant
    ∙ ap (λ scalars. string_bytes c.args.to.now ++ flat_map (scalar_text c.args.dots) scalars) (sym (map-id c.loop-scalar.yielded) ∙ end.0)
