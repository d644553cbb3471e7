use Rattle.std.proofs.{Common.{rules}, lemmas.Fn.{dedup_same}}
use Rattle.std.specs.Ordering.{is_eq}
use Rattle.mdns_listeners.specs.{declared.sender_names.SenderAddressName.{SenderAddressName}, SenderNames.{by_name}}
use Rattle.mdns_listeners.proofs.HeldNameLemmas.{kept_ascend, kept_covers}
use Rattle.mdns_listeners.proofs.sender_names.distinct.Goals as goal

pub returns-clause-ascending : goal.returns-clause-ascending
returns-clause-ascending c =
    kept_ascend c.args.names.items c.sort.new.names.items c.dedup_by.new.self.items c.sort.ensures.permutation c.sort.ensures.sorted
    (dedup_same _ (λ (x y : SenderAddressName). is_eq (by_name x y)) _ (λ x y b f' x' y' k. search rules) _ _ c.dedup_by.ensures.filtered)

pub returns-clause-covers : goal.returns-clause-covers
returns-clause-covers c =
    kept_covers c.args.names.items c.sort.new.names.items c.dedup_by.new.self.items c.sort.ensures.permutation c.sort.ensures.sorted
    (dedup_same _ (λ (x y : SenderAddressName). is_eq (by_name x y)) _ (λ x y b f' x' y' k. search rules) _ _ c.dedup_by.ensures.filtered)
