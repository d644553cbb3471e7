use Rattle.std.proofs.{Common.{[], ◌∷◌, arith, if◌then◌else◌, OnErr, ap, subst, sym}, lemmas.Result.{on_err_weaker}}
use Rattle.mdns_message.specs.{Borrowed.{hearing_lent}, Resource.{set_key_of, set_key_cmp}}
use Rattle.join_map.specs.{Join.{IsPartOfJoin}, Entries.{gathered, joined}}
use Rattle.mdns_join.specs.{Kept.{kept_union}, laws.Kept.{kept-one}}
use Rattle.mdns_join.proofs.RefusedLemmas.{part_refused}
use Rattle.mdns_cache.specs.{Contents.{Contents, IsUpTo, flush_of}, Gathering.{contents_gathered}}
use Rattle.mdns_cache.proofs.{BetweenLemmas.{flush_entry, IsUpTo-less}, ContentsLemmas.{flushes-laws}}
use Rattle.mdns_cache.proofs.GatheringLemmas.{any_fit, IsContents-gathered_flushes}
use Rattle.mdns_cache.proofs.gathering.Gathering.hear_flush.Goals as goal

pub join_near-found-requires : goal.join_near-found-requires
join_near-found-requires c = any_fit c.self.inside.flushes

pub invariant_of-self : goal.invariant_of-self
invariant_of-self c =
    let h = hearing_lent c.args.hearing.now in
    let old = contents_gathered c.self.inside.lasts c.self.inside.flushes c.self.inside.newest in
    let bound = subst (λ (x : Contents). IsUpTo x.newest h.moment.nanos) (sym c.self.view_is) c.requires.raised in
    record {
      contents = IsContents-gathered_flushes c.map_laws.ensures old c.join_near-found.result c.self.invariant.contents (set_key_of h.heard)
          (h.moment.nanos ∷ []) (gathered set_key_cmp kept_union c.join_near-found.new.self) (kept-one h.moment.nanos)
          (IsUpTo-less old.newest _ _ (omega arith) bound) c.join_near-found.ensures.ok
          (on_err_weaker c.join_near-found.result (ap (gathered set_key_cmp kept_union)) c.join_near-found.ensures.err);
      keyed = c.self.invariant.keyed;
    }

pub returns-clause-ok : goal.returns-clause-ok
returns-clause-ok c = grind arith

pub returns-clause-err : goal.returns-clause-err
returns-clause-err c =
    let h = hearing_lent c.args.hearing.now in
    let new = gathered set_key_cmp kept_union c.join_near-found.new.self in
    let part = part_refused (flushes-laws c.map_laws.ensures) c.join_near-found.result (gathered set_key_cmp kept_union c.self.inside.flushes)
    (flush_of h) new c.self.invariant.contents.flushes (flush_entry (set_key_of h.heard) h.moment.nanos)
    (on_err_weaker c.join_near-found.result (ap (gathered set_key_cmp kept_union)) c.join_near-found.ensures.err) in
    subst (λ t. OnErr c.join_near-found.result (IsPartOfJoin (joined set_key_cmp kept_union) c.args.self.now.flushes
    (if t then flush_of h else []) new)) (sym c.if-not-hearing.false)
    (subst (λ (x : Contents). OnErr c.join_near-found.result (IsPartOfJoin (joined set_key_cmp kept_union) x.flushes (flush_of h) new))
    c.self.view_is part)

pub returns-clause-held : goal.returns-clause-held
returns-clause-held c = (invariant_of-self c).contents
