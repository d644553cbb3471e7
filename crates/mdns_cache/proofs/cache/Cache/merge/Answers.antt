use Rattle.std.proofs.{Common.{arith, ◌≡◌, subst}, lemmas.Result.{on_ok_weaker, on_err_weaker}}
use Rattle.mdns_cache.specs.Contents.{Contents, contents, IsContents}
use Rattle.mdns_cache.proofs.{ContentsLemmas.{newer}, BetweenLemmas.{on_err_any}}
use Rattle.mdns_cache.proofs.StepLemmas.{part_lasts, part_flushes, whole_join, merge_stands, made_again}
use Rattle.mdns_cache.proofs.cache.Cache.merge.Goals as goal

pub returns-in_err-merge_lasts-clause-err : goal.returns-in_err-merge_lasts-clause-err
returns-in_err-merge_lasts-clause-err c = grind (arith, newer, on_err_any, part_lasts)

pub returns-clause-ok : goal.returns-clause-ok
returns-clause-ok c =
    let other = subst IsContents c.other.view_is c.other.invariant in
    let old = c.args.self.now in
    let raised = subst (λ (x : Contents). c.raise.new.self ≡ contents old.lasts old.flushes
    (newer old.newest x.newest)) c.other.view_is c.raise.ensures.raised in
    on_ok_weaker c.merge_flushes.result
    (λ done. whole_join c.map_laws.ensures c.args.self.now c.args.other.now c.raise.new.self c.raise.ensures.was_held
    other raised c.merge_lasts.new.self c.in_ok-merge_lasts.ensures.ok c.merge_lasts.ensures.rest
    c.merge_flushes.new.self done c.merge_flushes.ensures.rest)
    c.merge_flushes.ensures.ok

pub returns-clause-err : goal.returns-clause-err
returns-clause-err c = grind (arith, newer, on_err_weaker, part_flushes)

pub returns-clause-stands : goal.returns-clause-stands
returns-clause-stands c =
    on_ok_weaker c.merge_flushes.result (merge_stands c.map_laws.ensures c.args.self.now c.args.other.now
    c.merge_flushes.new.self) (returns-clause-ok c)

pub returns-in_err-merge_lasts-clause-again : goal.returns-in_err-merge_lasts-clause-again
returns-in_err-merge_lasts-clause-again c = grind (arith, on_err_weaker, made_again, returns-in_err-merge_lasts-clause-err c)

pub returns-clause-again : goal.returns-clause-again
returns-clause-again c = grind (arith, on_err_weaker, made_again, returns-clause-err c)
