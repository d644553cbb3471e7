use Rattle.std.proofs.{Common.{arith}, lemmas.Result.{IfErr-weaker}}
use Rattle.mdns_message.proofs.FaultKindLemmas.{first_fault}
use Rattle.mdns_message.proofs.message.read_message.Goals as goal

pub returns-clause-fault : goal.returns-clause-fault
returns-clause-fault c = grind (arith, IfErr-weaker, first_fault)
