use Rattle.std.proofs.lemmas.List.Sorted.{IsPermutation-trans}
use Rattle.mdns_listeners.proofs.order.sort.Goals as goal

pub returns-clause-permutation : goal.returns-clause-permutation
returns-clause-permutation c = IsPermutation-trans _ _ _ c.sort_by_words.ensures c.sort_by_bytes.ensures.permutation
