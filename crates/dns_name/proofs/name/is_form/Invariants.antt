use Rattle.std.proofs.Common.{length}
use Rattle.dns_name.specs.Name.{IsForm}
use Rattle.dns_name.proofs.name.is_form.Given as goal

abbrev pub invariant-loop-after : goal.invariant-loop-after
invariant-loop-after l = (IsForm l.rest → IsForm l.bytes) × (IsForm l.bytes → IsForm l.rest)

abbrev pub decreases-loop-after : goal.decreases-loop-after
decreases-loop-after l = length l.rest
