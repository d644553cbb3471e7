use Rattle.std.proofs.{Common.{sym, ◌∙◌, subst}, lemmas.Result.{on_ok_weaker, on_err_weaker}}
use Rattle.mdns_message.specs.Borrowed.{hearing_lent}
use Rattle.join_map.specs.Join.{IsPartOfJoin}
use Rattle.mdns_cache.specs.Contents.{IsContents, join_of, contents_of}
use Rattle.mdns_cache.proofs.BetweenLemmas.{IsContents-one, on_err_any}
use Rattle.mdns_cache.proofs.StepLemmas.{part_raised, part_lasts, part_flushes, whole_join, hear_stands, made_again}
use Rattle.mdns_cache.proofs.cache.Cache.hear_borrowed.Goals as goal

pub returns-in_err-key-clause-err : goal.returns-in_err-key-clause-err
returns-in_err-key-clause-err c =
    on_err_any c.from_residual.result
    (part_raised c.map_laws.ensures c.args.self.now (contents_of (hearing_lent c.args.hearing.now)) c.key_of.new.self
    c.raise.ensures.was_held (IsContents-one (hearing_lent c.args.hearing.now)) (c.key_of.ensures.rest ∙ c.raise.ensures.raised))

pub returns-in_err-key-clause-again : goal.returns-in_err-key-clause-again
returns-in_err-key-clause-again c =
    let h = hearing_lent c.args.hearing.now in
    on_err_weaker c.from_residual.result
    (made_again c.map_laws.ensures c.args.self.now (contents_of h) c.key_of.new.self c.raise.ensures.was_held
    (IsContents-one h) (subst IsContents (sym c.key_of.ensures.rest) c.raise.ensures.held))
    (returns-in_err-key-clause-err c)

pub returns-in_err-hear_last-clause-err : goal.returns-in_err-hear_last-clause-err
returns-in_err-hear_last-clause-err c =
    let h = hearing_lent c.args.hearing.now in
    on_err_any c.from_residual-in_err-hear_last.result
    (part_lasts c.map_laws.ensures c.args.self.now (contents_of h) c.key_of.new.self c.raise.ensures.was_held
    (IsContents-one h) (c.key_of.ensures.rest ∙ c.raise.ensures.raised)
    c.hear_last.new.self c.in_err-hear_last.ensures.err c.hear_last.ensures.rest)

pub returns-in_err-hear_last-clause-again : goal.returns-in_err-hear_last-clause-again
returns-in_err-hear_last-clause-again c =
    let h = hearing_lent c.args.hearing.now in
    on_err_weaker c.from_residual-in_err-hear_last.result
    (made_again c.map_laws.ensures c.args.self.now (contents_of h) c.hear_last.new.self c.raise.ensures.was_held
    (IsContents-one h) c.hear_last.ensures.held)
    (returns-in_err-hear_last-clause-err c)

pub returns-clause-ok : goal.returns-clause-ok
returns-clause-ok c =
    let h = hearing_lent c.args.hearing.now in
    on_ok_weaker c.hear_flush-heard.result
    (λ done. c.self.view_is ∙ whole_join c.map_laws.ensures c.args.self.now (contents_of h) c.key_of.new.self
    c.raise.ensures.was_held (IsContents-one h) (c.key_of.ensures.rest ∙ c.raise.ensures.raised) c.hear_last.new.self
    c.in_ok-hear_last.ensures.ok c.hear_last.ensures.rest c.hear_flush-heard.new.self done c.hear_flush-heard.ensures.rest)
    c.hear_flush-heard.ensures.ok

pub returns-clause-err : goal.returns-clause-err
returns-clause-err c =
    let h = hearing_lent c.args.hearing.now in
    on_err_weaker c.hear_flush-heard.result
    (λ part. subst (IsPartOfJoin join_of c.args.self.now (contents_of h)) (sym c.self.view_is)
    (part_flushes c.map_laws.ensures c.args.self.now (contents_of h) c.key_of.new.self c.raise.ensures.was_held
    (IsContents-one h) (c.key_of.ensures.rest ∙ c.raise.ensures.raised) c.hear_last.new.self
    c.in_ok-hear_last.ensures.ok c.hear_last.ensures.rest c.hear_flush-heard.new.self part c.hear_flush-heard.ensures.rest))
    c.hear_flush-heard.ensures.err

pub returns-clause-again : goal.returns-clause-again
returns-clause-again c =
    let h = hearing_lent c.args.hearing.now in
    on_err_weaker c.hear_flush-heard.result
    (made_again c.map_laws.ensures c.args.self.now (contents_of h) _ c.raise.ensures.was_held (IsContents-one h)
    (subst IsContents (sym c.self.view_is) c.hear_flush-heard.ensures.held))
    (returns-clause-err c)

pub returns-clause-stands : goal.returns-clause-stands
returns-clause-stands c =
    on_ok_weaker c.hear_flush-heard.result (hear_stands c.map_laws.ensures c.args.self.now _
    (hearing_lent c.args.hearing.now)) (returns-clause-ok c)
