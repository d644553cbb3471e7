use Rattle.std.proofs.{lemmas.Grind.{common_steps}, Common.{arith}}
use Rattle.join_map.proofs.{BlockLemmas.{none_from}, WalkLemmas.{none_left, open_first, open_next, open_still, place_left}}
use Rattle.join_map.proofs.walk.WalkIterator.next.Goals.{then-is_empty+in_ok-block, else-is_empty}
use Rattle.join_map.proofs.walk.WalkIterator.next.Goals as goal

pub entry_at-entry-requires : goal.entry_at-entry-requires
entry_at-entry-requires g c = grind (arith, open_next, none_from, else-is_empty, open_still, open_first)

pub invariant_of-self : goal.invariant_of-self
invariant_of-self g c = grind (arith, open_next, none_from, else-is_empty, open_still)

pub invariant_of-self-2 : goal.invariant_of-self-2
invariant_of-self-2 g c = grind (arith, common_steps, open_next, none_from, else-is_empty, open_still, open_first)

pub returns-in_err-place-clause-steps : goal.returns-in_err-place-clause-steps
returns-in_err-place-clause-steps g c = grind (arith, open_next, none_from, else-is_empty, open_still, place_left)

pub returns-in_err-block-clause-steps : goal.returns-in_err-block-clause-steps
returns-in_err-block-clause-steps g c = grind (arith, none_left, none_from)
