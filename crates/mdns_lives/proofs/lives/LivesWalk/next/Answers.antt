use Rattle.mdns_cache.proofs.BetweenLemmas.{on_err_any}
use Rattle.mdns_lives.proofs.lives.LivesWalk.next.Goals as goal

pub returns-in_err-row-clause-err : goal.returns-in_err-row-clause-err
returns-in_err-row-clause-err c = on_err_any c.from_residual.result (c.in-Some.record, c.in-Some.ensures)
