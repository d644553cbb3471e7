use Rattle.std.proofs.{lemmas.List.Sorted.{answers_always, ranks_by}, Common.{arith}}
use Rattle.std.specs.Cmp.Lexicographic.{nat_list_cmp_total}
use Rattle.mdns_listeners.specs.KeptMessage.{KeptMessage}
use Rattle.mdns_listeners.proofs.order.sort_by_bytes.Goals as goal

pub returns-clause-sorted : goal.returns-clause-sorted
returns-clause-sorted c = grind (arith, ranks_by nat_list_cmp_total (λ (one : KeptMessage). one.message), answers_always)
