use Rattle.std.proofs.{Common.{rules}, lemmas.List.Sorted.{ranks_by, answers_always}}
use Rattle.std.specs.Ordering.{is_lt}
use Rattle.mdns_listeners.specs.{declared.sender_names.SenderAddressName.{SenderAddressName}, SenderNames.{by_spelling}}
use Rattle.mdns_listeners.proofs.HeldNameLemmas.{by_spelling-total}
use Rattle.mdns_listeners.proofs.sender_names.sort.Goals as goal

pub returns-clause-sorted : goal.returns-clause-sorted
returns-clause-sorted c =
    c.sort_unstable_by.ensures.sorted (λ x y. is_lt (by_spelling x y)) (ranks_by by_spelling-total (λ (one : SenderAddressName). one))
    (answers_always _ _ _ (λ f a r f' k. search rules))
