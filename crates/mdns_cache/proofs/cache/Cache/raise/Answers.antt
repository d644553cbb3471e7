use Rattle.mdns_cache.specs.Contents.{contents}
use Rattle.mdns_cache.proofs.BetweenLemmas.{IsContents-raised}
use Rattle.mdns_cache.proofs.cache.Cache.raise.Goals as goal

pub invariant_of-self : goal.invariant_of-self
invariant_of-self c =
    rw c.newer-self-inside.ensures
    (IsContents-raised (contents c.self.inside.lasts c.self.inside.flushes c.self.inside.newest) c.args.newest
    c.self.invariant)

pub returns-clause-held : goal.returns-clause-held
returns-clause-held c =
    rw c.newer-self-inside.ensures
    (IsContents-raised (contents c.self.inside.lasts c.self.inside.flushes c.self.inside.newest) c.args.newest
    c.self.invariant)
