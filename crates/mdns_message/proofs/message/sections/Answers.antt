use Rattle.std.proofs.{Common.{arith}, lemmas.Result.{err_from_is_err_and}}
use Rattle.mdns_message.proofs.SectionLemmas.{front_sections, last_section_fails}
use Rattle.mdns_message.proofs.message.sections.Goals as goal

pub returns-in_err-records-clause-fault : goal.returns-in_err-records-clause-fault
returns-in_err-records-clause-fault c = grind (
  arith,
  err_from_is_err_and c.from_residual-in_err-records.result c.from_residual-in_err-records.ensures.1,
  front_sections c.args.moment c.args.message.now _ _ _ _ c.args.heard.now.hearings c.records.new.heard.hearings c.records-2.new.heard.hearings c.word_at-asked.ensures c.requires.none c.in_ok-offset.ensures.stands c.in_ok-offset-2.ensures.stands c.in_ok-offset-3.ensures.stands,
  last_section_fails,
)
