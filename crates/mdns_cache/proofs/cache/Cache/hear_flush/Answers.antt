use Rattle.std.proofs.Common.{[], ◌∷◌, subst, sym, arith}
use Rattle.mdns_message.specs.Borrowed.{hearing_lent}
use Rattle.mdns_join.specs.laws.Kept.{kept-one}
use Rattle.mdns_cache.specs.Contents.{Contents, IsUpTo, contents}
use Rattle.mdns_cache.proofs.BetweenLemmas.{IsContents-put_flushes, IsUpTo-less}
use Rattle.mdns_cache.proofs.cache.Cache.hear_flush.Goals as goal

pub invariant_of-self : goal.invariant_of-self
invariant_of-self c =
    let h = hearing_lent c.args.hearing.now in
    let old = contents c.self.inside.lasts c.self.inside.flushes c.self.inside.newest in
    let raised = subst (λ (x : Contents). IsUpTo x.newest h.moment.nanos) (sym c.self.view_is) c.requires.raised in
    IsContents-put_flushes c.map_laws.ensures old c.args.set.now (h.moment.nanos ∷ []) c.join_at.new.self c.join_at.result
    c.self.invariant (kept-one h.moment.nanos) (IsUpTo-less old.newest _ _ (omega arith) raised)
    c.join_at.ensures.valid c.join_at.ensures.ok c.join_at.ensures.err

pub returns-clause-held : goal.returns-clause-held
returns-clause-held c = invariant_of-self c
