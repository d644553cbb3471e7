use Rattle.std.proofs.Common.{arith}
use Rattle.memory.proofs.ByteListLemmas.{mapped_from}
use Rattle.memory.proofs.byte_list.lowered.Goals as goal

pub returns-clause-lowered : goal.returns-clause-lowered
returns-clause-lowered c = grind (arith, mapped_from)
