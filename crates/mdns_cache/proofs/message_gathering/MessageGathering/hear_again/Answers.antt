use Rattle.mdns_cache.proofs.MemoryLemmas.{IfSome-weaker, stands-again}
use Rattle.mdns_cache.proofs.message_gathering.MessageGathering.hear_again.Goals as goal

pub returns-clause-stands : goal.returns-clause-stands
returns-clause-stands c = IfSome-weaker c.hear_again.result _ _
    (λ count again heard hearings reads s. stands-again c.args.moment c.args.message.now hearings reads c.self.inside.gathering
    c.self.inside.messages c.hear_again.new.self heard again (rw (← c.self.view_is) at s))
    c.hear_again.ensures.again
