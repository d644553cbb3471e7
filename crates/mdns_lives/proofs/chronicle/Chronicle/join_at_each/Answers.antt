use Rattle.std.proofs.Common.{◌∙◌}
use Rattle.mdns_message.specs.Borrowed.{hearing_lent}
use Rattle.mdns_cache.proofs.BetweenLemmas.{on_err_any}
use Rattle.mdns_lives.specs.Each.{accounts_each}
use Rattle.mdns_lives.proofs.{EachLemmas.{accounts_each-valid}, PartLemmas.{part_none, part_records}}
use Rattle.mdns_lives.proofs.chronicle.Chronicle.join_at_each.Goals as goal

pub returns-in_err-hear_record-clause-err : goal.returns-in_err-hear_record-clause-err
returns-in_err-hear_record-clause-err c =
    let h = hearing_lent c.args.hearing.now in
    on_err_any c.from_residual.result
    (part_none c.args.self.now c.hear_record.new.self (accounts_each h c.args.moments) c.hear_record.ensures.was
    (accounts_each-valid h c.args.moments) c.in_err-hear_record.ensures.err)

pub returns-in_err-hear_flush-clause-err : goal.returns-in_err-hear_flush-clause-err
returns-in_err-hear_flush-clause-err c =
    let h = hearing_lent c.args.hearing.now in
    on_err_any c.from_residual-in_err-hear_flush.result
    (part_records c.args.self.now c.hear_flush.new.self (accounts_each h c.args.moments) c.hear_record.ensures.was
    (accounts_each-valid h c.args.moments) (c.in_err-hear_flush.ensures.err ∙ c.in_ok-hear_record.ensures.ok))
