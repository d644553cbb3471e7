use Rattle.std.proofs.{Common.{arith}, lemmas.{List.Folds.{list_any-append}, Result.{IfOk-weaker}}}
use Rattle.mdns_browse.specs.About.{name_terms}
use Rattle.mdns_browse.proofs.AboutLemmas.{label-first, or_false}
use Rattle.mdns_browse.proofs.about_names.matches_name.Goals as goal

pub returns-in-Some : goal.returns-in-Some
unfolding name_terms
returns-in-Some c = grind (arith, list_any-append, or_false, IfOk-weaker, label-first _ _ _ c.in-Some.ensures.label)
