use Rattle.std.proofs.Common.{refl, arith}
use Rattle.dns_name.specs.FirstFault.NameFailsUnder.{no_octet, label_form}
use Rattle.dns_name.proofs.name_at.step_at.Goals as goal

pub returns-then-offset-message-clause-fault : goal.returns-then-offset-message-clause-fault
returns-then-offset-message-clause-fault c = no_octet (omega arith) refl

pub returns-then-octet-lt-POINTER-clause-fault : goal.returns-then-octet-lt-POINTER-clause-fault
returns-then-octet-lt-POINTER-clause-fault c = label_form (omega arith) (omega arith) (omega arith) refl
