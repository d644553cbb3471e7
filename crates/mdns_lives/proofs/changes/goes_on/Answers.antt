use Rattle.mdns_cache.specs.LentRecords.{last_lent}
use Rattle.mdns_lives.proofs.ChosenLemmas.{set-goes-on}
use Rattle.mdns_lives.proofs.changes.goes_on.Goals as goal

pub returns-in-Some : goal.returns-in-Some
returns-in-Some c =
    set-goes-on c.args.set.now c.in-Some.first.now (last_lent c.args.last.now) c.is_held_with.result c.in-Some.ensures.value
    c.is_held_with.ensures
