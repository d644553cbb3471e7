use Rattle.std.proofs.{Common.{arith, ◌≡◌, ◌+◌, List, length, take, insert, sym, ap, ◌∙◌, subst}, lemmas.List.{take_rest}}
use Rattle.mdns_capture.specs.declared.moment.Moment.{Moment}
use Rattle.mdns_join.specs.{Kept.{IsAscending}, laws.Kept.{IsAscending-from_kept, IsAscending-union}}
use Rattle.mdns_join.proofs.MomentLemmas.{put_at_place, kept_dropped}
use Rattle.mdns_join.proofs.prune.put.Goals as goal

pub prune-requires : goal.prune-requires
prune-requires c =
    subst IsAscending (sym (put_at_place c.args.items.now c.insert.new.self c.args.at c.args.moment
    (IsAscending-from_kept _ c.requires.kept) c.requires.place c.requires.absent c.in_ok-insert.ensures.ok))
    (IsAscending-union _ _)

pub returns-then-held-gt-FEW-clause-ok : goal.returns-then-held-gt-FEW-clause-ok
returns-then-held-gt-FEW-clause-ok c = grind (arith, put_at_place, IsAscending-from_kept)

pub unkept-requires : goal.unkept-requires
unkept-requires c =
    let more = take (length c.as_slice-held.result.now + 1) c.with_one_more-more.result in
    let inserted : more ≡ insert c.args.items.now c.args.at c.args.moment = c.with_one_more-more.ensures
    ∙ ap (λ (xs : List Moment). insert xs c.args.at c.args.moment) c.as_slice-held.ensures in
    subst IsAscending (sym (put_at_place c.args.items.now more c.args.at c.args.moment
    (IsAscending-from_kept _ c.requires.kept) c.requires.place c.requires.absent inserted)) (IsAscending-union _ _)

pub returns-clause-ok : goal.returns-clause-ok
returns-clause-ok c = grind (arith, kept_dropped, take_rest, put_at_place, IsAscending-from_kept)
