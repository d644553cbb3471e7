use Rattle.std.proofs.Common.{arith}
use Rattle.mdns_browse.proofs.TextLemmas.{groups_before-all, groups_before-step}
use Rattle.mdns_browse.proofs.format.push_ipv6.Goals as goal

pub loop-group-preserved : goal.loop-group-preserved
loop-group-preserved c =
    let written = c.prepend_placed_group.ensures.written in (
      omega arith,
      groups_before-step _ _ _ _ _ _ (omega arith) c.loop-group.invariant.1 written,
      omega (arith, c.prepend_placed_group.ensures.len),
    )

pub returns : goal.returns
returns c = grind (arith, groups_before-all _ _ _ (omega arith) c.loop-group.invariant.1)
