use Rattle.std.proofs.Common.{rules}
use Rattle.mdns_cache.proofs.MemoryLemmas.{IfSome-weaker}
use Rattle.mdns_survey.proofs.HeardLemmas.{hears-more}
use Rattle.mdns_survey.proofs.hearer.AnyConsumer.take_again.Goals as goal

pub returns-clause-took : goal.returns-clause-took
returns-clause-took g c = search (rules, IfSome-weaker, hears-more)
