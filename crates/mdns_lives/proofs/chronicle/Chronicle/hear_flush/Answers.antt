use Rattle.std.proofs.Common.{arith}
use Rattle.mdns_message.specs.Borrowed.{hearing_lent}
use Rattle.mdns_lives.proofs.{EachLemmas.{flushes_gathered}, PartLemmas.{gathered_accounts}}
use Rattle.mdns_lives.proofs.chronicle.Chronicle.hear_flush.Goals as goal

pub invariant_of-self : goal.invariant_of-self
invariant_of-self c =
    flushes_gathered c.join_near-found.result c.self.inside.records c.self.inside.flushes c.self.invariant
    (hearing_lent c.args.repeats.now.hearing.now) c.args.repeats.now.moments c.join_near-found.new.self
    c.join_near-found.ensures.ok c.join_near-found.ensures.err

pub returns-clause-held : goal.returns-clause-held
returns-clause-held c = grind (arith, gathered_accounts, invariant_of-self)
