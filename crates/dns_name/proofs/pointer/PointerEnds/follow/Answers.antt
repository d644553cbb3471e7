use Rattle.std.proofs.{Common.{vec_len, slice_index, refl, arith}, lemmas.Grind.{get_or_default_zero}}
use Rattle.dns_name.specs.Pointer.PointersLead.{there}
use Rattle.dns_name.proofs.PointerLemmas.{ends_here, lead_before}
use Rattle.dns_name.proofs.pointer.PointerEnds.follow.Goals as goal

pub returns-then-self-lt-FREE_HOPS-clause-lead : goal.returns-then-self-lt-FREE_HOPS-clause-lead
returns-then-self-lt-FREE_HOPS-clause-lead c = there refl

pub returns-then-target-len-clause-last : goal.returns-then-target-len-clause-last
returns-then-target-len-clause-last c = grind (arith, vec_len, slice_index, get_or_default_zero)
