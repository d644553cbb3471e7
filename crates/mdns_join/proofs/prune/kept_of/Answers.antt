use Rattle.std.proofs.{Common.{List, refl, sym, ap, ◌∙◌, subst}, lemmas.List.Filters.{dedup_is}}
use Rattle.mdns_capture.specs.declared.moment.Moment.{Moment}
use Rattle.mdns_join.specs.{Kept.{IsAscending, kept}, Nanos.{nanos_of}}
use Rattle.mdns_join.proofs.LateLemmas.{sorted_ascend, sorted_kept}
use Rattle.mdns_join.proofs.prune.kept_of.Goals as goal

pub prune-requires : goal.prune-requires
prune-requires c =
    let sorted = c.sort.new.self.items in
    let unlike = c.dedup.new.self.items in
    subst (λ (xs : List Moment). IsAscending (nanos_of xs)) (sym c.in_ok-list.ensures)
    (sorted_ascend _ (λ a b. refl) c.args.moments.items sorted unlike c.in_ok-sort.ensures.permutation
    c.in_ok-sort.ensures.sorted (dedup_is _ sorted unlike c.dedup.ensures.filtered))

pub returns : goal.returns
returns c =
    let sorted = c.sort.new.self.items in
    let unlike = c.dedup.new.self.items in
    c.prune.ensures ∙ ap (λ (xs : List Moment). kept (nanos_of xs)) c.in_ok-list.ensures
    ∙ sorted_kept _ (λ a b. refl) c.args.moments.items sorted unlike c.in_ok-sort.ensures.permutation
    c.in_ok-sort.ensures.sorted (dedup_is _ sorted unlike c.dedup.ensures.filtered)
