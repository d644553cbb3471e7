use Rattle.std.proofs.lemmas.Result.{on_err_weaker}
use Rattle.mdns_message.specs.Borrowed.{hearing_lent}
use Rattle.mdns_cache.specs.Contents.{contents_of}
use Rattle.mdns_cache.proofs.BetweenLemmas.{IsContents-one, on_err_any}
use Rattle.mdns_cache.proofs.StepLemmas.{part_lasts, part_flushes, whole_join, hear_stands, made_again}
use Rattle.mdns_cache.proofs.gathering.Gathering.hear.Goals as goal

pub returns-in_err-hear_last-clause-err : goal.returns-in_err-hear_last-clause-err
returns-in_err-hear_last-clause-err c =
    let h = hearing_lent c.args.hearing.now in
    on_err_any c.from_residual.result
    (part_lasts c.map_laws.ensures c.args.self.now (contents_of h) c.raise.new.self c.raise.ensures.was_held
    (IsContents-one h) c.raise.ensures.raised
    c.hear_last.new.self c.in_err-hear_last.ensures.err c.hear_last.ensures.rest)

pub returns-in_err-hear_last-clause-again : goal.returns-in_err-hear_last-clause-again
returns-in_err-hear_last-clause-again c =
    let h = hearing_lent c.args.hearing.now in
    on_err_weaker c.from_residual.result
    (made_again c.map_laws.ensures c.args.self.now (contents_of h) c.hear_last.new.self c.raise.ensures.was_held
    (IsContents-one h) c.hear_last.ensures.held)
    (returns-in_err-hear_last-clause-err c)

pub returns-in_err-hear_flush-clause-err : goal.returns-in_err-hear_flush-clause-err
returns-in_err-hear_flush-clause-err c =
    let h = hearing_lent c.args.hearing.now in
    on_err_any c.from_residual-in_err-hear_flush.result
    (part_flushes c.map_laws.ensures c.args.self.now (contents_of h) c.raise.new.self c.raise.ensures.was_held
    (IsContents-one h) c.raise.ensures.raised
    c.hear_last.new.self c.in_ok-hear_last.ensures.ok c.hear_last.ensures.rest c.hear_flush.new.self
    c.in_err-hear_flush.ensures.err c.hear_flush.ensures.rest)

pub returns-in_err-hear_flush-clause-again : goal.returns-in_err-hear_flush-clause-again
returns-in_err-hear_flush-clause-again c =
    let h = hearing_lent c.args.hearing.now in
    on_err_weaker c.from_residual-in_err-hear_flush.result
    (made_again c.map_laws.ensures c.args.self.now (contents_of h) c.hear_flush.new.self c.raise.ensures.was_held
    (IsContents-one h) c.hear_flush.ensures.held)
    (returns-in_err-hear_flush-clause-err c)

pub returns-clause-ok : goal.returns-clause-ok
returns-clause-ok c =
    let h = hearing_lent c.args.hearing.now in
    whole_join c.map_laws.ensures c.args.self.now (contents_of h) c.raise.new.self c.raise.ensures.was_held
    (IsContents-one h) c.raise.ensures.raised
    c.hear_last.new.self c.in_ok-hear_last.ensures.ok c.hear_last.ensures.rest c.hear_flush.new.self
    c.in_ok-hear_flush.ensures.ok c.hear_flush.ensures.rest

pub returns-clause-stands : goal.returns-clause-stands
returns-clause-stands c =
    hear_stands c.map_laws.ensures c.args.self.now c.hear_flush.new.self (hearing_lent c.args.hearing.now) (returns-clause-ok c)
