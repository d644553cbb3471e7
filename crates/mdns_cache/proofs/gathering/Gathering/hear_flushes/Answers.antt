use Rattle.std.proofs.{Common.{arith, ap, subst, sym}, lemmas.Result.{on_err_weaker}}
use Rattle.mdns_message.specs.{Borrowed.{hearing_lent}, Resource.{set_key_of, set_key_cmp}}
use Rattle.join_map.specs.Entries.{gathered}
use Rattle.mdns_join.specs.Kept.{kept_union}
use Rattle.mdns_cache.specs.{Contents.{Contents, IsUpTo}, Gathering.{contents_gathered}}
use Rattle.mdns_cache.proofs.GatheringLemmas.{any_fit, IsContents-gathered_flushes}
use Rattle.mdns_cache.proofs.gathering.Gathering.hear_flushes.Goals as goal

pub join_near-found-requires : goal.join_near-found-requires
join_near-found-requires c = any_fit c.self.inside.flushes

pub invariant_of-self : goal.invariant_of-self
invariant_of-self c =
    let h = hearing_lent c.args.hearing.now in
    let ms = c.args.moments.now in
    let old = contents_gathered c.self.inside.lasts c.self.inside.flushes c.self.inside.newest in
    let bound = subst (IsUpTo old.newest) (sym c.requires.newest.greatest)
    (subst (λ (x : Contents). IsUpTo x.newest h.moment.nanos) (sym c.self.view_is) c.requires.raised) in
    record {
      contents = IsContents-gathered_flushes c.map_laws.ensures old c.join_near-found.result c.self.invariant.contents (set_key_of h.heard)
          ms (gathered set_key_cmp kept_union c.join_near-found.new.self) c.valid.ensures bound c.join_near-found.ensures.ok
          (on_err_weaker c.join_near-found.result (ap (gathered set_key_cmp kept_union)) c.join_near-found.ensures.err);
      keyed = c.self.invariant.keyed;
    }

pub returns-clause-ok : goal.returns-clause-ok
returns-clause-ok c = grind arith

pub returns-clause-held : goal.returns-clause-held
returns-clause-held c = (invariant_of-self c).contents
