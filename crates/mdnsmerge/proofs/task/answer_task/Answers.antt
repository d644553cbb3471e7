use Rattle.std.proofs.Common.{refl}
use Rattle.mdnsmerge.proofs.RefusedLemmas.{memory-refused}
use Rattle.mdnsmerge.proofs.task.answer_task.Goals as goal

-- without memory for the groups nothing was read or written
pub returns-in-Err-clause-refused : goal.returns-in-Err-clause-refused
returns-in-Err-clause-refused g c = λ refused. memory-refused g.R.Source _ _ _ _ refl refl c.say_fault.ensures.says _
