use Rattle.std.proofs.Common.{◌≡◌, ◌+◌, length, take}
use Rattle.std.specs.List.{flat_map}
use Rattle.mdns_page.specs.Timeline.{lives_lent}
use Rattle.mdns_page.proofs.bar_titles.less_servers.Given as goal

-- the lives of the servers so far were subtracted
abbrev pub invariant-loop-server : goal.invariant-loop-server
invariant-loop-server l = l.left + length (flat_map lives_lent (take l.server-index l.servers)) ≡ l.count
