use Rattle.std.proofs.Common.{arith, Some, subst}
use Rattle.mdns_cache.specs.{Contents.{IsContents}, Gathering.{contents_gathered}}
use Rattle.mdns_cache.proofs.BetweenLemmas.{IsContents-raised}
use Rattle.mdns_cache.proofs.gathering.Gathering.raise.Goals as goal

pub invariant_of-self : goal.invariant_of-self
invariant_of-self c = grind (
  arith,
  IsContents-raised (contents_gathered c.self.inside.lasts c.self.inside.flushes c.self.inside.newest) (Some c.args.moment) c.self.invariant.contents,
)

pub returns-clause-was_held : goal.returns-clause-was_held
returns-clause-was_held c = subst IsContents c.self.view_is c.self.invariant.contents

pub returns-clause-held : goal.returns-clause-held
returns-clause-held c = (invariant_of-self c).contents
