use Rattle.std.proofs.{lemmas.List.Sorted.{IsPermutation-put_mid, IsPermutation-trans, length_permutation}, Common.{rules}}
use Rattle.mdns_listeners.proofs.order.+sort_by_words.Goals as goal

pub loop-begin-preserved-then-end-begin-gt1 : goal.loop-begin-preserved-then-end-begin-gt1
loop-begin-preserved-then-end-begin-gt1 t c = search (rules, IsPermutation-put_mid, length_permutation, IsPermutation-trans)
