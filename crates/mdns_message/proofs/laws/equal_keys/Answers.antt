use Rattle.std.proofs.Common.{rules}
use Rattle.mdns_message.specs.laws.Resource.{set_keys_same}
use Rattle.mdns_message.proofs.KeyLemmas.{both_true, true_both}
use Rattle.mdns_message.proofs.laws.equal_keys.Goals as goal

pub returns-clause-key : goal.returns-clause-key
returns-clause-key c a b = search (rules, set_keys_same, both_true, true_both)
