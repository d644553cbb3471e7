use Rattle.mdns_listeners.proofs.LawLemmas.{messages-permuted, sums-permuted}
use Rattle.mdns_listeners.proofs.laws.order_changes_no_count.Goals as goal

pub returns : goal.returns
returns c = record { messages = messages-permuted; sums = sums-permuted }
