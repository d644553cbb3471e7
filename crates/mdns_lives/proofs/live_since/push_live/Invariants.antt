use Rattle.std.proofs.Common.{◌≡◌, ◌++◌, map, take}
use Rattle.mdns_cache.specs.LentRecords.{last_lent}
use Rattle.mdns_lives.specs.Since.{live_since_lent, since_rows}
use Rattle.mdns_lives.proofs.live_since.push_live.Given as goal

abbrev pub invariant-loop-life : goal.invariant-loop-life
invariant-loop-life l =
    map live_since_lent l.to.items
    ≡ map live_since_lent l.initial.to.items ++ since_rows l.now.nanos (last_lent l.last) (take l.life-index l.lives)
