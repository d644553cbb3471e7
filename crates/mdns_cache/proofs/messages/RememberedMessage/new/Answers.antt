use Rattle.std.proofs.Common.{arith}
use Rattle.mdns_cache.proofs.MemoryLemmas.{reads_as}
use Rattle.mdns_cache.proofs.messages.RememberedMessage.new.Goals as goal

pub invariant_of-result : goal.invariant_of-result
invariant_of-result c = λ t. rw c.in_ok-from_slice.ensures.items
    (reads_as c.args.message.now c.args.hearings c.args.moment c.requires.0 (λ i. omega (arith, c.type_inv.message i))
    c.requires.1 c.requires.2 t)
