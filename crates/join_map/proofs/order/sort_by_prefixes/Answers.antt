use Rattle.std.proofs.{Common.{rules, subst, sym}, lemmas.List.Sorted.{IsPermutation-trans}}
use Rattle.std.specs.List.Sorted.{IsPermutation}
use Rattle.join_map.proofs.order.sort_by_prefixes.Goals.{then-count_run-order, else-count_run-order}
use Rattle.join_map.proofs.order.sort_by_prefixes.Goals as goal

pub returns : goal.returns
returns c =
    let order = c.args.order.now in
    let turned = c.if-count_run-order.order in
    let sorted = c.sort_unstable.new.self in
    let kept : IsPermutation order turned = elim c.if-count_run-order.branch [
      | then-count_run-order w ↦ subst (IsPermutation order) (sym w.order-is) w.rotate_left.ensures.permutation
      | else-count_run-order w ↦ search rules
    ] in
    IsPermutation-trans order turned sorted kept c.sort_unstable.ensures.permutation
