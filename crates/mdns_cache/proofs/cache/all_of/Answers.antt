use Rattle.std.proofs.Common.{sym, subst}
use Rattle.mdns_join.specs.{Kept.{IsAscending}, laws.Kept.{IsAscending-from_kept}}
use Rattle.mdns_cache.proofs.cache.all_of.Goals as goal

pub returns-in-Some-clause-ascending : goal.returns-in-Some-clause-ascending
returns-in-Some-clause-ascending c =
    subst IsAscending (sym c.all.ensures.all) (IsAscending-from_kept c.in-Some.moments.now c.all.ensures.kept)
