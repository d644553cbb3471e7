use Rattle.std.proofs.Common.{◌≡◌, ◌++◌, drop}
use Rattle.mdns_lives.specs.Heard.{seconds_from}
use Rattle.mdns_lives.proofs.seconds_heard.push_seconds.Given as goal

-- the seconds so far, with those that the hearings left give, are all
abbrev pub invariant-loop-next : goal.invariant-loop-next
invariant-loop-next l =
    l.to.items ++ seconds_from l.current (drop l.next-index l.heard) ≡ l.fn.to.items ++ seconds_from l.fn.current l.heard
