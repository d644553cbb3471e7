use Rattle.mdns_cache.proofs.LiveWalkLemmas.{Shows}
use Rattle.mdns_cache.proofs.live.next_live.Given as goal

abbrev pub invariant-loop-key : goal.invariant-loop-key
invariant-loop-key l = Shows l.initial.flushes l.flushes l.now.nanos l.initial.entries l.entries
