use Rattle.std.proofs.Common.{refl, arith}
use Rattle.dns_name.specs.FirstFault.NameFailsUnder.{pointer_cut, pointer_target}
use Rattle.dns_name.proofs.pointer.pointer_target.Goals as goal

pub returns-then-message-offset-lt2-clause-fault : goal.returns-then-message-offset-lt2-clause-fault
returns-then-message-offset-lt2-clause-fault c = λ u. pointer_cut c.requires.within c.requires.octet (omega arith) refl

pub returns-then-target-start-clause-fault : goal.returns-then-target-start-clause-fault
returns-then-target-start-clause-fault c =
    λ u. pointer_target _ c.target_at-target.ensures.pointer c.if-target-start.true refl
