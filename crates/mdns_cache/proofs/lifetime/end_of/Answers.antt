use Rattle.std.proofs.Common.{arith, leb-true, leb-false}
use Rattle.mdns_cache.proofs.FirstLaterLemmas.{none_later, first_later}
use Rattle.mdns_cache.proofs.lifetime.end_of.Goals as goal

pub returns-in-Some-clause-value : goal.returns-in-Some-clause-value
returns-in-Some-clause-value c = grind (arith, first_later, leb-true, leb-false)

pub returns-in-None-clause-value : goal.returns-in-None-clause-value
returns-in-None-clause-value c = grind (arith, none_later, leb-true)
