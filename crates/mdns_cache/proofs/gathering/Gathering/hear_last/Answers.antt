use Rattle.std.proofs.{Common.{arith, OnErr, ap, subst, sym}, lemmas.Result.{on_err_weaker}}
use Rattle.mdns_message.specs.{Borrowed.{hearing_lent}, Resource.{key_of, key_cmp}}
use Rattle.join_map.specs.{Join.{IsPartOfJoin}, Entries.{gathered, joined}}
use Rattle.mdns_join.specs.Latest.{later, latest_of}
use Rattle.mdns_join.proofs.RefusedLemmas.{part_refused}
use Rattle.mdns_cache.specs.{Contents.{Contents, IsUpTo, contents_of}, Gathering.{contents_gathered}}
use Rattle.mdns_cache.proofs.{BetweenLemmas.{IsContents-one}, ContentsLemmas.{lasts-laws}, GatheringLemmas.{IsContents-gathered_last}}
use Rattle.mdns_cache.proofs.gathering.Gathering.hear_last.Goals as goal

pub invariant_of-self : goal.invariant_of-self
invariant_of-self c =
    let h = hearing_lent c.args.hearing.now in
    let old = contents_gathered c.self.inside.lasts c.self.inside.flushes c.self.inside.newest in
    let bound = subst (λ (x : Contents). IsUpTo x.newest h.moment.nanos) (sym c.self.view_is) c.requires.raised in
    record {
      contents = IsContents-gathered_last c.map_laws.ensures old c.join_near-found.result c.self.invariant.contents (key_of h.heard)
          (latest_of h) (gathered key_cmp later c.join_near-found.new.self) bound c.join_near-found.ensures.ok
          (on_err_weaker c.join_near-found.result (ap (gathered key_cmp later)) c.join_near-found.ensures.err);
      keyed = c.join_near-found.ensures.fits;
    }

pub returns-clause-ok : goal.returns-clause-ok
returns-clause-ok c = grind arith

pub returns-clause-err : goal.returns-clause-err
returns-clause-err c =
    let h = hearing_lent c.args.hearing.now in
    let new = gathered key_cmp later c.join_near-found.new.self in
    subst (λ (x : Contents). OnErr c.join_near-found.result (IsPartOfJoin (joined key_cmp later) x.lasts (contents_of h).lasts new))
    c.self.view_is
    (part_refused (lasts-laws c.map_laws.ensures) c.join_near-found.result (gathered key_cmp later c.self.inside.lasts)
    (contents_of h).lasts new c.self.invariant.contents.lasts (IsContents-one h).lasts
    (on_err_weaker c.join_near-found.result (ap (gathered key_cmp later)) c.join_near-found.ensures.err))

pub returns-clause-held : goal.returns-clause-held
returns-clause-held c = (invariant_of-self c).contents
