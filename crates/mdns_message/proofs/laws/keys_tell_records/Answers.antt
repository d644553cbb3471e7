use Rattle.std.proofs.Common.{arith, ap}
use Rattle.std.specs.Cmp.Lexicographic.{bytes_decides}
use Rattle.mdns_message.specs.{Resource.{folded_data_of, set_key_of}, laws.Resource.{set_keys_same}}
use Rattle.mdns_message.proofs.KeyLemmas.{both_true, true_both}
use Rattle.mdns_message.proofs.laws.keys_tell_records.Goals as goal

pub returns-clause-record : goal.returns-clause-record
returns-clause-record c a b =
    let sets = set_keys_same (set_key_of a) (set_key_of b) in
    let data_lists = bytes_decides (folded_data_of a.body) (folded_data_of b.body) in (
      λ equal.
          let parts = both_true _ _ equal in
          let set = sets.0 parts.0 in
          record { owner = ap (λ s. s.owner) set; number = ap (λ s. s.number) set; data_bytes = data_lists.0 parts.1 },
      λ same.
          let owner = same.owner in
          let number = same.number in
          true_both _ _ (sets.1 (λ i. record { owner = owner i; number = number i })) (data_lists.1 same.data_bytes),
    )

pub returns-clause-set : goal.returns-clause-set
returns-clause-set c a b = grind (arith, set_keys_same (set_key_of a) (set_key_of b))
