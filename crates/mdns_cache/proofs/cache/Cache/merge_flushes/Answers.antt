use Rattle.std.proofs.Common.{ℕ, subst, sym}
use Rattle.mdns_cache.specs.Contents.{Contents, contents, IsUpTo}
use Rattle.mdns_cache.proofs.BetweenLemmas.{IsContents-join_flushes}
use Rattle.mdns_cache.proofs.cache.Cache.merge_flushes.Goals as goal

pub invariant_of-self : goal.invariant_of-self
invariant_of-self c =
    let old = contents c.self.inside.lasts c.self.inside.flushes c.self.inside.newest in
    let other = contents c.other.inside.lasts c.other.inside.flushes c.other.inside.newest in
    let raised = subst (λ (x : Contents). (m : ℕ) → IsUpTo x.newest m → IsUpTo old.newest m) (sym c.other.view_is)
    (subst (λ (x : Contents). (m : ℕ) → IsUpTo c.args.other.now.newest m → IsUpTo x.newest m)
    (sym c.self.view_is) c.requires.raised) in
    IsContents-join_flushes c.map_laws.ensures old other c.join_with-answer.new.self c.join_with-answer.result
    c.self.invariant c.other.invariant raised c.valid.ensures c.join_with-answer.ensures.ok
    c.join_with-answer.ensures.err

pub returns-clause-held : goal.returns-clause-held
returns-clause-held c = invariant_of-self c
