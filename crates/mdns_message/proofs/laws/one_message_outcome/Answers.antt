use Rattle.std.proofs.Common.{rules}
use Rattle.mdns_message.proofs.MessageLawLemmas.{message_not_both, message_outcome, one_hearing_list, one_message_fault}
use Rattle.mdns_message.proofs.laws.one_message_outcome.Goals as goal

pub returns : goal.returns
returns c = search (rules, message_outcome, message_not_both, one_hearing_list, one_message_fault)
