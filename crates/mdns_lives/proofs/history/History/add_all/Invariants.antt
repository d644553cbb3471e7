use Rattle.std.proofs.Common.{◌≡◌, take}
use Rattle.mdns_lives.specs.Seconds.{join_seconds, seconds_of}
use Rattle.mdns_lives.proofs.history.History.add_all.Given as goal

-- the hearings so far are joined
abbrev pub invariant-loop-item : goal.invariant-loop-item
invariant-loop-item l = l.self ≡ join_seconds l.fn.self (seconds_of (take l.item-index l.items))
