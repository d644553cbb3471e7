use Rattle.std.proofs.{Common.{length, rules, sym, subst}, lemmas.Result.{IfOk-weaker}}
use Rattle.join_map.specs.Blocks.{places_of, IsOrder}
use Rattle.join_map.proofs.OrderLemmas.{order-permutation}
use Rattle.join_map.proofs.order.sorted_places.Goals as goal

pub returns : goal.returns
returns g c =
    let n = length c.args.entries.now in
    let all : IsOrder n (places_of c.as_mut_slice-order.result.now) = search rules in
    let sorted = order-permutation n (places_of c.as_mut_slice-order.result.now) (places_of c.sort.new.order)
    c.sort.ensures all in
    IfOk-weaker c.only_places.result _ _ (λ places is. subst (IsOrder n) (sym is) sorted) c.only_places.ensures
