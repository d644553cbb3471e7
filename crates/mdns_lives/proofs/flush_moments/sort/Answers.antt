use Rattle.std.proofs.{Common.{sym, ◌∙◌, refl}, lemmas.List.Filters.{dedup_is}}
use Rattle.mdns_join.specs.{Kept.{ascending}, laws.Kept.{has-ascending, same_ascending, IsAscending-ascending}, Nanos.{nanos_of}}
use Rattle.mdns_join.proofs.LateLemmas.{sorted_ascend}
use Rattle.mdns_lives.proofs.SortedLemmas.{unlike-has, same_nanos, nanos-equiv}
use Rattle.mdns_lives.proofs.flush_moments.sort.Goals as goal

pub returns : goal.returns
returns c =
    let items = c.args.items.now.items in
    let sorted = c.sort_runs.new.items.items in
    let unlike = c.dedup.new.self.items in
    let moved = c.sort_runs.ensures.permutation in
    let are = dedup_is _ sorted unlike c.dedup.ensures.filtered in
    let has = unlike-has _ nanos-equiv same_nanos items sorted unlike moved are in
    same_ascending (nanos_of unlike) (ascending (nanos_of items))
    (sorted_ascend _ (λ a b. refl) items sorted unlike moved c.sort_runs.ensures.sorted are)
    (IsAscending-ascending (nanos_of items))
    (λ q h. has-ascending (nanos_of items) q ∙ (has q).0 h)
    (λ q h. (has q).1 (sym (has-ascending (nanos_of items) q) ∙ h))
