use Rattle.std.proofs.Common.{refl, arith}
use Rattle.dns_name.specs.FirstFault.NameFailsUnder.{label_cut, label_long}
use Rattle.dns_name.proofs.name_at.label_end.Goals as goal

pub returns-then-count-message-clause-fault : goal.returns-then-count-message-clause-fault
returns-then-count-message-clause-fault c = λ bound. label_cut _ c.requires.within refl c.requires.some c.requires.few (omega arith) refl

pub returns-then-used-count-gt-NAME_LIMIT-clause-fault : goal.returns-then-used-count-gt-NAME_LIMIT-clause-fault
returns-then-used-count-gt-NAME_LIMIT-clause-fault c =
    λ bound. label_long _ (record { whole = omega arith; octet = refl; some = c.requires.some; few = c.requires.few }) (omega arith) refl
