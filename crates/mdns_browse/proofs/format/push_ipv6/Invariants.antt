use Rattle.std.proofs.Common.{◌≡◌, ◌++◌, ◌+◌, ◌*◌, ◌≤◌, length}
use Rattle.mdns_browse.proofs.TextLemmas.{groups_text}
use Rattle.mdns_browse.proofs.format.push_ipv6.Given as goal

abbrev pub invariant-loop-group : goal.invariant-loop-group
invariant-loop-group l =
    (l.group ≤ 8) × (groups_text l.octets l.group ++ l.text ≡ groups_text l.octets 8)
    × (length l.text + 5 * l.group ≤ 40)

abbrev pub decreases-loop-group : goal.decreases-loop-group
decreases-loop-group l = l.group
