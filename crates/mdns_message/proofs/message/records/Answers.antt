use Rattle.std.proofs.{Common.{arith}, lemmas.Result.{err_from_is_err_and}}
use Rattle.mdns_message.specs.RecordAt.{RecordStands}
use Rattle.mdns_message.proofs.RunLemmas.{Adds-more, run_fails}
use Rattle.mdns_message.proofs.message.records.Goals as goal

pub loop-preserved : goal.loop-preserved
loop-preserved c = grind (
  arith,
  Adds-more c.args.moment (RecordStands c.args.message.now c.args.section) c.loop.counter c.args.start c.loop.offset c.in_ok-offset.offset c.args.heard.now.hearings c.loop.heard.hearings c.record_at.new.heard.hearings c.loop.invariant.fact.0 c.in_ok-offset.ensures.stands,
)

pub returns-in_err-offset-clause-fault : goal.returns-in_err-offset-clause-fault
returns-in_err-offset-clause-fault c = grind (arith, err_from_is_err_and, run_fails)
